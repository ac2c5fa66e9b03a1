pub mod Represented
pub mod SpareCells
