pub mod PruneLemmas
pub mod CutLemmas
pub mod FallLemmas
pub mod LandLemmas
