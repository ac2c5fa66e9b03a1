pub mod RowTerms
mod FactRows
mod CutRows
mod CatchRows
pub mod WorldRows
mod WorldGoalRows
mod OutputRows
mod DatabaseRows
mod ArithmeticRows
mod TermGoalRows
mod AtomGoalRows
mod AtomPartRows
mod NumberTextRows
mod SortingRows
pub mod ConstructLemmas
pub mod FreeStepLemmas
pub mod StepLemmas
pub mod RunLemmas
pub mod BuiltinRowBoundLemmas
pub mod BuiltinBoundLemmas
pub mod WorldGoalBoundLemmas
pub mod OutcomeBoundLemmas
pub mod NumberingLemmas
pub mod HeightLemmas
pub mod ClauseTrialLemmas
pub mod ReservedNameLemmas
pub mod AnswerBoundLemmas
pub mod TermPartBoundLemmas
pub mod PlainAnswerLemmas
pub mod AtomGoalPlainLemmas
pub mod AtomPartPlainLemmas
pub mod NumberTextPlainLemmas
pub mod SortingLemmas
