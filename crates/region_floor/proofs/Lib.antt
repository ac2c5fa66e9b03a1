pub mod JoinedLemmas
pub mod FloorSizeLemmas
mod CollectedLemmas
pub mod OwnRestLemmas
mod KeptAnswerLemmas
mod KeptTermLemmas
mod KeptBuiltinLemmas
pub mod KeptClauseLemmas
pub mod OwnGoalLemmas
pub mod OwnBallLemmas
pub mod GateTopLemmas
pub mod RunLemmas
pub mod RegionRunLemmas
pub mod NextNumberLemmas
