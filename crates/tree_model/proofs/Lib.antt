mod BallHistories
mod CutHistories
mod HaltHistories
mod IllegalEvents
mod QueryHistories
mod ResultHistories
mod ClosingRows
pub mod WorkedJobs
pub mod CountLemmas
pub mod OrderLemmas
