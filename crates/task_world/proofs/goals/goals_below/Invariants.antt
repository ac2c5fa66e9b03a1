use Rattle.std.proofs.Common.{◌≡◌, ◌≤◌, length, drop}
use Rattle.branch_reading.specs.QueryNodes.{goals_in}
use Rattle.task_world.proofs.goals.goals_below.Given as goal

abbrev pub invariant-loop-left : goal.invariant-loop-left
invariant-loop-left l = record { within : l.left ≤ length l.terms; are : l.goals ≡ goals_in l.node (drop l.left l.terms) }

abbrev pub decreases-loop-left : goal.decreases-loop-left
decreases-loop-left l = l.left
