pub mod HandOutLemmas
pub mod FoundLemmas
pub mod LostLemmas
pub mod CountLemmas
pub mod FollowingLemmas
pub mod OpeningLemmas
mod GrownLemmas
mod PublicClosingLemmas
mod WayLemmas
mod AddedLemmas
mod BodyLemmas
mod MakeLemmas
mod PublishingLemmas
pub mod PrunedTaskLemmas
pub mod PruningLemmas
pub mod BallGateLemmas
pub mod FallingLemmas
mod AnsweringLemmas
mod AnswerBallLemmas
mod StayLemmas
mod RunRestLemmas
pub mod RunTakenLemmas
mod RunBarredLemmas
