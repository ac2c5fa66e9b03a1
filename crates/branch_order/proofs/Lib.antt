pub mod LeftLemmas
pub mod ClockLemmas
pub mod LeftmostLemmas
pub mod MeetingLemmas
pub mod FrontLemmas
pub mod SoughtLemmas
mod NoneLemmas
