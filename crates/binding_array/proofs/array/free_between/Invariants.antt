use Rattle.std.proofs.Common.{◌-◌, ◌≤◌, length}
use Rattle.binding_array.specs.SpareCells.{AreFreed}
use Rattle.binding_array.proofs.array.free_between.Given as goal

abbrev pub invariant-loop-at : goal.invariant-loop-at
invariant-loop-at l = record {
  within : l.to ≤ length l.cells.items;
  up : l.from ≤ l.at;
  below : l.at ≤ l.to;
  freed : AreFreed l.from l.at l.initial.cells.items l.cells.items;
}

abbrev pub decreases-loop-at : goal.decreases-loop-at
decreases-loop-at l = l.to - l.at
