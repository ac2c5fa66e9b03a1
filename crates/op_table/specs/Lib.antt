pub mod OperatorView
pub mod NameRows
pub mod TableRows
pub mod TableChanges
pub mod Arguments
