use Rattle.std.proofs.Common.{◌≡◌}
use Rattle.task_stops.specs.FrontCuts.{scope_in_front}
use Rattle.task_stops.proofs.front.scope_of.Given as goal

abbrev pub invariant-loop-item : goal.invariant-loop-item
invariant-loop-item l = scope_in_front l.item-iterator ≡ scope_in_front l.goals
