pub mod BindingEquations
pub mod CellEquations
pub mod Extensions
pub mod ExtensionLaws
