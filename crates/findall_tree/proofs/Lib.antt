pub mod BagLemmas
