pub mod AnswersAtOnce
