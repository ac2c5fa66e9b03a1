-- What every legal tree keeps, kept by every event.
use Rattle.interleaving.proofs.LegalLemmas.{event_sound}
use Rattle.interleaving.proofs.CaughtEventsLemmas.{caught_preserved}
use Rattle.interleaving.proofs.AnswerTreeLemmas.{answers_preserved}
use Rattle.interleaving.proofs.NumberedEventLemmas.{event_numbered, history_numbered}
use Rattle.interleaving.proofs.HistoryTheorems.{in_step}
use Rattle.tree_model.specs.LegalTrees.{EventsKeepTrees, HistoriesKeepTrees}

pub events_preserve : EventsKeepTrees
events_preserve t e h few l = record {
  sound = event_sound t e h.sound l;
  caught = caught_preserved t e tt h.sound h.caught l;
  ordered = (answers_preserved t h.sound h.caught h.ordered few e l).0;
  numbered = event_numbered t h.numbered e;
}

pub histories_preserve : HistoriesKeepTrees
histories_preserve job budget window es below l =
    let h = in_step job budget below window es l in
    record { sound = h.sound; caught = h.caught; ordered = h.ordered; numbered = history_numbered job budget window es }
