use Rattle.std.proofs.Common.{◌≡◌, length}
use Rattle.branch_shapes.specs.RestBodies.{items_behind}
use Rattle.branch_shapes.proofs.rest.goals_left.Given as goal

abbrev pub invariant-loop-left : goal.invariant-loop-left
invariant-loop-left l = items_behind l.left ≡ items_behind l.fn.goals

abbrev pub decreases-loop-left : goal.decreases-loop-left
decreases-loop-left l = length l.left
