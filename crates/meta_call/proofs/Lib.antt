pub mod BodyLemmas
pub mod CalledTermLemmas
pub mod CallLemmas
