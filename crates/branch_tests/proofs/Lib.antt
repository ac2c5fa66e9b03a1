pub mod LoadableLemmas
pub mod FloorLemmas
