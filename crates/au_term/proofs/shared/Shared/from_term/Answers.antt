use Rattle.std.proofs.Common.{ap, ◌∙◌, sym, subst}
use Rattle.au_term.specs.PrefixOrder.{subterm, AreValidCells}
use Rattle.au_term.specs.Shifted.{shifted, IsShiftablePlace}
use Rattle.au_term.proofs.SubtermLemmas.{subterm-zero}
use Rattle.au_term.proofs.ShiftLemmas.{first_place, shifted-zero}
use Rattle.au_term.proofs.shared.Shared.from_term.Goals as goal

pub invariant_of-result : goal.invariant_of-result
invariant_of-result c =
    subst (λ t. IsShiftablePlace t 0 0) (sym c.in_ok-new.ensures.ok) (first_place c.args.term (subst AreValidCells c.cells-cells.ensures.cells c.cells-cells.ensures.whole.sound))

pub returns : goal.returns
returns c = ap (λ t. shifted 0 (subterm 0 t)) c.in_ok-new.ensures.ok ∙ (shifted-zero _ ∙ subterm-zero c.args.term)
