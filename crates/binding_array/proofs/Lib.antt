pub mod RepresentedLemmas
pub mod SpareCellLemmas
