pub mod NormalBodyLemmas
pub mod GoalPlaceLemmas
pub mod CompiledClauseLemmas
pub mod RenumberingLemmas
pub mod AtomNumberLemmas
pub mod PlaceMeaningLemmas
pub mod GroundPlaceLemmas
pub mod CodeLemmas
