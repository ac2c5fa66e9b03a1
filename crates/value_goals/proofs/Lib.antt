pub mod TopLemmas
pub mod EvaluationLemmas
pub mod ComparisonLemmas
pub mod PartLemmas
pub mod GroundLemmas
pub mod ShortLemmas
