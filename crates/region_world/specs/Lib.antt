pub mod AskedEffects
pub mod FoundSolutions
pub mod RowSolutions
pub mod WorldAnswers
pub mod WorldGoals
