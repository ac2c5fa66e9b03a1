pub mod ReplyLemmas
pub mod PairLemmas
pub mod CopiedLemmas
pub mod OrderLemmas
pub mod QuickLemmas
pub mod UndoneLemmas
pub mod SolvedLemmas
