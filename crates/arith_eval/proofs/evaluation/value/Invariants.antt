use Rattle.std.proofs.Common.{◌≤◌, length, drop}
use Rattle.au_term.specs.PrefixOrder.{terms_of}
use Rattle.arith_eval.specs.Evaluating.{Stacks}
use Rattle.arith_eval.proofs.evaluation.value.Given as goal

abbrev pub invariant-loop-at : goal.invariant-loop-at
invariant-loop-at l = (l.at ≤ length l.cells) × Stacks l.values.items (terms_of (drop l.at l.cells))

abbrev pub decreases-loop-at : goal.decreases-loop-at
decreases-loop-at l = l.at
