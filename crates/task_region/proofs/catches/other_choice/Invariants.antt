use Rattle.std.proofs.Common.{ℕ, ◌≤◌, ◌<◌}
use Rattle.region_split.specs.ChoicePoints.{IsCatchAt}
use Rattle.task_region.proofs.catches.other_choice.Given as goal

abbrev pub invariant-loop-over : goal.invariant-loop-over
invariant-loop-over l = (l.from ≤ l.over) × ((n : ℕ) → l.from ≤ n → n < l.over → IsCatchAt l.region.choices n)
