pub mod Evaluation
pub mod Comparison
pub mod Answers
pub mod Parts
pub mod GroundTerms
pub mod ShortValues
