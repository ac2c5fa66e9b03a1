mod ShapeLemmas
mod LeafLemmas
mod PendingLemmas
mod FirstLemmas
mod AnswerLemmas
mod AnswerHistories
