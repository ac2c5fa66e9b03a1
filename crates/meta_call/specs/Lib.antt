pub mod OwnBodies
pub mod CalledTerms
pub mod Calls
