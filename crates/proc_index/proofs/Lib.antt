pub mod PlacesLemmas
pub mod KeyLemmas
pub mod IndexLemmas
pub mod LawLemmas
pub mod TakenLemmas
pub mod KeyClashLemmas
