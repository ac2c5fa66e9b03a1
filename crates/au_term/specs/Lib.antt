pub mod Term
pub mod PrefixOrder
pub mod SubtermSizes
pub mod Shifted
pub mod Arguments
