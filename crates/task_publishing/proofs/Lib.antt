pub mod TableLemmas
pub mod ScopeLemmas
pub mod MadeLemmas
pub mod LiveLemmas
pub mod GoalLemmas
pub mod BranchMeaningLemmas
pub mod RunLemmas
pub mod BodyMeaningLemmas
pub mod ChainLemmas
pub mod WholeLemmas
pub mod AllLemmas
pub mod FinalLemmas
mod HeightLemmas
mod JoinedLemmas
mod FloorEndLemmas
mod TakenLemmas
mod NodesDownLemmas
pub mod BodyLemmas
pub mod StoppedLemmas
pub mod SpotLemmas
mod TaskRunLemmas
pub mod TaskLemmas
pub mod JobLemmas
pub mod KeptLemmas
