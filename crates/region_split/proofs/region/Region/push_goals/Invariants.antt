use Rattle.std.proofs.Common.{◌≤◌, length, drop}
use Rattle.region_split.specs.StackOperations.{PutsGoals}
use Rattle.region_split.proofs.region.Region.push_goals.Given as goal

abbrev pub invariant-loop-left : goal.invariant-loop-left
invariant-loop-left l = record { within : l.left ≤ length l.goals; put : PutsGoals l.fn.self l.self (drop l.left l.goals) l.cut l.fn.after l.position }

abbrev pub decreases-loop-left : goal.decreases-loop-left
decreases-loop-left l = l.left
