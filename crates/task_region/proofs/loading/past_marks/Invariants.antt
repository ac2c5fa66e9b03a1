use Rattle.std.proofs.Common.{ℕ, ◌≤◌, ◌<◌, ◌-◌, length, map}
use Rattle.task_region.specs.DeferredItems.{item_of, IsMarkAt}
use Rattle.task_region.proofs.loading.past_marks.Given as goal

abbrev pub invariant-loop-item : goal.invariant-loop-item
invariant-loop-item l = (l.fn.number ≤ l.at) × ((n : ℕ) → l.fn.number ≤ n → n < l.at → IsMarkAt (map item_of l.fn.deferred) n)

abbrev pub decreases-loop-item : goal.decreases-loop-item
decreases-loop-item l = length l.fn.deferred - l.at
