mod TaskCountLemmas
mod TaskClosingLemmas
mod GivenBackLemmas
mod OutEventLemmas
mod OutHistoryLemmas
mod OutAndBackLemmas
mod StopLemmas
