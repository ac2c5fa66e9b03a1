pub mod Inferences
pub mod Runs
