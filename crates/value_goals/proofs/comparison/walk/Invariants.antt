use Rattle.std.proofs.Common.{◌≡◌, ◌≤◌}
use Rattle.value_goals.specs.Comparison.{AreSides, left_size, order_of_pairs, argument_pairs}
use Rattle.value_goals.proofs.comparison.walk.Given as goal

abbrev pub invariant-loop-rest : goal.invariant-loop-rest
invariant-loop-rest l = record {
  same : order_of_pairs (argument_pairs l.store l.rest) ≡ order_of_pairs (argument_pairs l.store l.fn.equations);
  there : AreSides l.store l.rest;
  fewer : left_size (argument_pairs l.store l.rest) ≤ left_size (argument_pairs l.store l.fn.equations);
}

abbrev pub decreases-loop-rest : goal.decreases-loop-rest
decreases-loop-rest l = l.rest.left.count
