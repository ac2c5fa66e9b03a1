mod OperatorRows
mod OperatorChangeRows
mod WritingRows
pub mod ApplyLemmas
pub mod UnifierRuleLemmas
pub mod UnifierMeasureLemmas
pub mod UnifierLemmas
pub mod EquationOrderLemmas
pub mod EachLemmas
pub mod VariableBoundLemmas
pub mod ListTermLemmas
pub mod ListFormLemmas
pub mod ListBuildingLemmas
pub mod CopyLemmas
pub mod EquationsInTurnLemmas
pub mod PostOperatorLemmas
