pub mod SpotLemmas
pub mod EventLemmas
pub mod BranchLemmas
pub mod FrontLemmas
mod RemovalLemmas
mod AnswerLemmas
pub mod TopLemmas
pub mod ToldLemmas
mod LoadedLemmas
mod GoalLemmas
mod WayLemmas
mod EndLemmas
mod OutLemmas
