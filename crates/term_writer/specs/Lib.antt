pub mod NotationView
pub mod TextInProgress
pub mod WritingTasks
pub mod WritingSources
pub mod AnswerParts
pub mod TokensWithEnd
