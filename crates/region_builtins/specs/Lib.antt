pub mod CopiedSolutions
pub mod QuickAnswers
