pub mod FrontItems
pub mod FrontSteps
pub mod FrontsTold
pub mod QueryEnds
pub mod OutTasks
