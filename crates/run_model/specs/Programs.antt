-- What a text loads to.
pub mod Bodies
pub mod Clauses
pub mod Databases
pub mod DatabaseChanges
pub mod Jobs
