use Rattle.std.proofs.Common.{◌<◌, length}
use Rattle.region_capture.specs.NeededBindings.{SeesMore}
use Rattle.region_capture.proofs.ReachLemmas.{ReachesFrom}
use Rattle.region_capture.proofs.needed.reach_items.Given as goal

abbrev pub invariant-loop-item : goal.invariant-loop-item
invariant-loop-item l = record {
  within : l.number < length l.items;
  more : SeesMore l.store l.first l.fn.needed l.needed;
  rest : ReachesFrom l.store.now.next l.needed.seen l.items l.fn.number l.number;
}

abbrev pub decreases-loop-item : goal.decreases-loop-item
decreases-loop-item l = l.number
