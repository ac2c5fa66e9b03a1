pub mod Segments
pub mod Trails
