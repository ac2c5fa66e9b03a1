pub mod Sleeping
pub mod Closings
