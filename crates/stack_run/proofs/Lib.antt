pub mod WorldFrontLemmas
pub mod QueryLemmas
pub mod StepLemmas
pub mod MachineLemmas
pub mod WaitingLemmas
pub mod RunLemmas
