mod GateRestLemmas
mod CauseLemmas
mod StopGateLemmas
mod FrontCutLemmas
mod SuspendLemmas
mod UntakenLemmas
mod EndLemmas
mod GivenLemmas
pub mod CloseLemmas
mod ThrownBallLemmas
pub mod CopiedBallLemmas
pub mod SpotBallLemmas
mod FallLemmas
pub mod GatheredLemmas
pub mod QuietLemmas
pub mod SameWayLemmas
pub mod WokenReadingLemmas
pub mod WokenLemmas
pub mod FewerNodeLemmas
mod CopyLemmas
mod TakenLemmas
mod FoundLemmas
mod LandingLemmas
mod AllLandingLemmas
mod ReadableLemmas
mod RecoveryLemmas
mod AskedLemmas
mod FallenLemmas
