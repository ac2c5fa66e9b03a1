pub mod LegLemmas
pub mod TrailLemmas
