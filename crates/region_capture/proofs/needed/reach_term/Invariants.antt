use Rattle.region_capture.specs.NeededBindings.{SeesMore}
use Rattle.region_capture.proofs.ReachLemmas.{AreReachedTo}
use Rattle.region_capture.proofs.needed.reach_term.Given as goal

abbrev pub invariant-loop-at : goal.invariant-loop-at
invariant-loop-at l = record {
  more : SeesMore l.store l.first l.fn.needed l.needed;
  done : AreReachedTo l.store.now.next l.needed.seen l.term l.at;
}
