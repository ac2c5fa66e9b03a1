use Rattle.std.proofs.Common.{◌≡◌, ◌+◌, ◌-◌, length, map}
use Rattle.task_region.specs.DeferredItems.{item_of, AreGoalsFrom}
use Rattle.task_region.proofs.loading.goals_from.Given as goal

abbrev pub invariant-loop-term : goal.invariant-loop-term
invariant-loop-term l = AreGoalsFrom (map item_of l.fn.deferred) l.fn.cut l.fn.number l.goals.items × (l.at ≡ l.fn.number + length l.goals.items)

abbrev pub decreases-loop-term : goal.decreases-loop-term
decreases-loop-term l = 7 - length l.goals.items
