pub mod Powers
pub mod Names
pub mod Stacks
