pub mod Deferred
pub mod BareFloors
pub mod PrivateLaws
pub mod BallLaws
pub mod GateLaws
pub mod RunLaws
pub mod RegionRuns
pub mod NextNumbers
