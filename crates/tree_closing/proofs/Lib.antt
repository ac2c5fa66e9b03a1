pub mod ReachedLemmas
pub mod SleeperLemmas
pub mod ChangeLemmas
