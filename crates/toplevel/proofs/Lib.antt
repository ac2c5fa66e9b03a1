mod FoundSpellings
mod FoundSentences
pub mod LibraryLemmas
