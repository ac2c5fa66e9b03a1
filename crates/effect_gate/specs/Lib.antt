pub mod Effects
pub mod Refusals
pub mod Indicators
