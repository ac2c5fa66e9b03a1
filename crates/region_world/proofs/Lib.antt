pub mod AskedGoalLemmas
pub mod AskedEffectLemmas
pub mod FoundEffectLemmas
pub mod FoundLemmas
pub mod ReplyLemmas
pub mod AnswerLemmas
pub mod RowLemmas
pub mod RemovalLemmas
