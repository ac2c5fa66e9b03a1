mod EventLemmas
mod RunLemmas
mod BackLemmas
mod TaskLemmas
mod FrontLemmas
mod EndLemmas
mod NameLemmas
mod CloseLemmas
mod LaterLemmas
mod FirstLemmas
mod PieceLemmas
mod TurnLemmas
mod EndingLemmas
mod OpeningLemmas
pub mod KeptLemmas
