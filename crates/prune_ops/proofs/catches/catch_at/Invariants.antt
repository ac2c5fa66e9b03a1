use Rattle.std.proofs.Common.{◌≡◌}
use Rattle.prune_ops.specs.Marks.{first_catch}
use Rattle.prune_ops.proofs.catches.catch_at.Given as goal

abbrev pub invariant-loop-item : goal.invariant-loop-item
invariant-loop-item l = first_catch l.goals ≡ first_catch l.item-iterator
