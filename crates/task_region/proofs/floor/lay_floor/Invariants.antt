use Rattle.std.proofs.Common.{◌≤◌, ◌-◌, length}
use Rattle.task_region.specs.BareRegions.{LaysFloor}
use Rattle.task_region.proofs.floor.lay_floor.Given as goal

abbrev pub invariant-loop-region : goal.invariant-loop-region
invariant-loop-region l = record {
  lays : LaysFloor l.fn.region l.region (length l.region.choices);
  within : length l.region.choices ≤ l.count;
}

abbrev pub decreases-loop-region : goal.decreases-loop-region
decreases-loop-region l = l.count - length l.region.choices
