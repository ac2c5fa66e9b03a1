mod FloorLemmas
mod LoadLemmas
mod StartLemmas
pub mod FoundLemmas
mod DeferredLemmas
pub mod ChoiceEntryLemmas
mod EngineLemmas
pub mod EndLemmas
mod CutGoalLemmas
mod StandingRunLemmas
mod AheadLemmas
mod RoundLemmas
mod RunningLemmas
mod CompoundRoundLemmas
pub mod ResultLemmas
mod MadeLemmas
pub mod PlaceUpLemmas
mod HeightLemmas
mod BindingLemmas
pub mod BranchLoadLemmas
mod LoadableLemmas
pub mod AtPlaceLemmas
pub mod CatchLemmas
pub mod KeptLemmas
pub mod HeightByNumberLemmas
pub mod KeptRegionLemmas
pub mod BelowLemmas
