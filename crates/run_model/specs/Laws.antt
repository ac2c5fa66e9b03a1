-- What is said of every run.
pub mod ClauseLaws
pub mod HeightLaws
pub mod Numbering
pub mod RunLaws
