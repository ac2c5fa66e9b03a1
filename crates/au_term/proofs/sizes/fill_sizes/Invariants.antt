use Rattle.std.proofs.Common.{◌≡◌, ◌≤◌, length, drop}
use Rattle.au_term.specs.PrefixOrder.{terms_of}
use Rattle.au_term.specs.SubtermSizes.{all_sizes}
use Rattle.au_term.proofs.sizes.fill_sizes.Given as goal

abbrev pub invariant-loop-at : goal.invariant-loop-at
invariant-loop-at l = (l.at ≤ length l.cells) × (drop l.at l.sizes ≡ all_sizes (terms_of (drop l.at l.cells)))

abbrev pub decreases-loop-at : goal.decreases-loop-at
decreases-loop-at l = l.at
