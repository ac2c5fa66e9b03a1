pub mod BranchSegments
pub mod SettledWays
pub mod Readings
pub mod QueryNodes
pub mod NumberedReadings
