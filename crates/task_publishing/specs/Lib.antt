pub mod KeptScopes
pub mod BranchGoals
pub mod LiveChoices
pub mod MadeBodies
pub mod PublishedRuns
pub mod OwnEntries
pub mod OwnBodies
pub mod TaskRuns
