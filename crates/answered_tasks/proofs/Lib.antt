mod RunLemmas
mod StateLemmas
mod CloseLemmas
