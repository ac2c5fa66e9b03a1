use Rattle.std.proofs.Common.{◌≡◌, ◌+◌, length}
use Rattle.au_term.specs.PrefixOrder.{all_cells}
use Rattle.au_term.specs.SubtermSizes.{HasSizes}
use Rattle.au_term.specs.Term.{Terms, take_terms}
use Rattle.au_term.proofs.sizes.skip_terms.Given as goal

abbrev pub invariant-loop-passed : goal.invariant-loop-passed
invariant-loop-passed l = (ts : Terms) → HasSizes l.sizes l.start l.number ts → l.at ≡ l.start + length (all_cells (take_terms l._passed ts))
