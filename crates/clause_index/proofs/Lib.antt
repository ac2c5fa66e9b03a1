pub mod ClassLemmas
pub mod NumberLemmas
pub mod ChainLemmas
pub mod CursorLemmas
pub mod HeadKeyLemmas
pub mod PlaceLemmas
pub mod NamedLemmas
pub mod OnlyLemmas
