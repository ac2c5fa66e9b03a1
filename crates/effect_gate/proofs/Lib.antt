pub mod RefusalLemmas
pub mod HeadLemmas
pub mod FoundClauseLemmas
pub mod AssertionLemmas
pub mod AbolitionLemmas
