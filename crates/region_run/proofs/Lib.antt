pub mod InferenceLemmas
pub mod RunLemmas
pub mod GoingOnLemmas
