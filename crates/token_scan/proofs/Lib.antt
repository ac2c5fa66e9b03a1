pub mod RunLemmas
pub mod CappedNumberLemmas
pub mod LayoutLemmas
pub mod QuotedItemLemmas
pub mod WordLemmas
pub mod RescanLemmas
mod WordRows
