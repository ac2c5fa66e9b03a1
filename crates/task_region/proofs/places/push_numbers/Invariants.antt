use Rattle.std.proofs.Common.{◌≡◌, ◌++◌, ◌≤◌, length, drop, map, reverse}
use Rattle.tree_model.specs.declared.places.AltRef.{AltRef}
use Rattle.task_region.proofs.places.push_numbers.Given as goal

abbrev pub invariant-loop-left : goal.invariant-loop-left
invariant-loop-left l = record {
  within : l.left ≤ length l.places;
  pushed : l.numbers.items ≡ l.initial.numbers.items ++ reverse (map (λ (a : AltRef). a.node) (drop l.left l.places));
}

abbrev pub decreases-loop-left : goal.decreases-loop-left
decreases-loop-left l = l.left
