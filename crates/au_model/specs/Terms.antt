-- Terms, substitutions and unifiers.
pub mod Forms
pub mod TermTypes
pub mod Lists
pub mod ListForms
pub mod ListCells
pub mod Each
pub mod Named
pub mod Substitutions
pub mod Unifier
pub mod MostGeneral
pub mod EquationsInTurn
pub mod Copies
pub mod CopiedCells
pub mod ErrorTerms
pub mod Faults
