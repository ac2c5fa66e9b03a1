pub mod Marks
pub mod Prunes
pub mod Cuts
pub mod Falls
