use Rattle.std.proofs.Common.{◌≡◌}
use Rattle.task_stops.specs.Landings.{innermost_catch}
use Rattle.task_stops.proofs.catches.innermost_catch.Given as goal

abbrev pub invariant-loop-item : goal.invariant-loop-item
invariant-loop-item l = innermost_catch l.item-iterator ≡ innermost_catch l.goals
