-- The sequential machine.
pub mod Items
pub mod Entries
pub mod Balls
pub mod Heights
pub mod FreeSteps
pub mod States
pub mod Runs
pub mod Status
