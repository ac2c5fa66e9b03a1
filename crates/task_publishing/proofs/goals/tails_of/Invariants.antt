use Rattle.std.proofs.Common.{◌≡◌, ℕ, ◌<◌, ◌≤◌, length, drop, slice_get, Some}
use Rattle.task_publishing.proofs.goals.tails_of.Given as goal

abbrev pub invariant-loop-left : goal.invariant-loop-left
invariant-loop-left l = record {
  left : l.left ≡ drop (length l.tails.items) l.goals;
  within : length l.tails.items ≤ length l.goals;
  each : (n : ℕ) → n < length l.tails.items → slice_get l.tails.items n ≡ Some (drop n l.goals);
}

abbrev pub decreases-loop-left : goal.decreases-loop-left
decreases-loop-left l = length l.left
