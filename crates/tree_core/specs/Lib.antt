pub mod Brands
pub mod TasksOut
pub mod Histories
pub mod HandOuts
pub mod Turns
pub mod Openings
pub mod KeptPromises
