use Rattle.std.proofs.Common.{◌≡◌, cond}
use Rattle.branch_shapes.specs.RestBodies.{items_behind}
use Rattle.task_stops.specs.Landings.{innermost_catch}
use Rattle.task_stops.proofs.catches.catch_behind.Given as goal

abbrev pub invariant-loop-item : goal.invariant-loop-item
invariant-loop-item l = cond l.behind (innermost_catch l.item-iterator) (innermost_catch (items_behind l.item-iterator)) ≡ innermost_catch (items_behind l.goals)
