pub mod CellOrder
pub mod TermOrder
pub mod SortedLemmas
