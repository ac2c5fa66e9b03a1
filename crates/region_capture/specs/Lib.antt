pub mod SeenVariables
pub mod CapturedItems
pub mod CapturedMeanings
pub mod CapturedChoices
pub mod CapturedRegions
pub mod KeptLevels
pub mod CaptureSteps
pub mod NeededBindings
