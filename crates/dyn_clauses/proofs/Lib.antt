pub mod PositionIndexLemmas
pub mod EntryLemmas
pub mod ProcedureLemmas
pub mod MatchingLemmas
pub mod EntriesLemmas
pub mod DatabaseLemmas
pub mod ViewLemmas
