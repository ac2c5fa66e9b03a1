use Rattle.std.proofs.Common.{◌≤◌, ◌-◌, length, take}
use Rattle.region_capture.specs.KeptLevels.{ReachesValues}
use Rattle.region_capture.specs.NeededBindings.{SeesMore, reach_left}
use Rattle.region_capture.proofs.needed.reach_values.Given as goal

abbrev pub invariant-loop-at : goal.invariant-loop-at
invariant-loop-at l = record {
  within : l.at ≤ length l.needed.bindings;
  more : SeesMore l.store l.first l.fn.needed l.needed;
  done : ReachesValues l.store.now.next l.needed.seen (take l.at l.needed.bindings);
}

abbrev pub decreases-loop-at : goal.decreases-loop-at
decreases-loop-at l = reach_left l.needed - l.at
