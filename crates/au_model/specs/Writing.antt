-- From terms to bytes.
pub mod NameForms
pub mod Pieces
pub mod OperatorForms
pub mod WrittenTerms
pub mod Lines
pub mod ReadBack
