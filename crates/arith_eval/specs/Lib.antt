pub mod Integers
pub mod Functions
pub mod Evaluating
