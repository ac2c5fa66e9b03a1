use Rattle.std.proofs.Common.{◌≡◌, ap, ◌∙◌, sym, subst, arith, get_or, length, ◌<◌}
use Rattle.std.specs.Result.{IfOk}
use Rattle.au_term.proofs.SubtermLemmas.{some_cell}
use Rattle.au_term.specs.PrefixOrder.{top_of, term_of}
use Rattle.au_term.specs.Shifted.{shifted_cell}
use Rattle.au_term.proofs.WholeTermLemmas.{whole, first_cell}
use Rattle.au_term.proofs.ShiftLemmas.{bound_at, bound_whole, top_of-shifted}
use Rattle.au_term.proofs.shared.Shared.top.Goals as goal

pub shifted-requires : goal.shifted-requires
shifted-requires c =
    let cells = c.parts-base.result.0.now in
    let some : 0 < length cells = omega (arith, ap length (whole cells c.parts-base.ensures.whole.leaves), some_cell (term_of cells)) in
    omega (arith, bound_at cells 0 c.index-cells-0.result some c.index-cells-0.is, bound_whole cells c.parts-base.ensures.whole, c.parts-base.ensures.fits)

pub returns : goal.returns
returns c =
    let first : c.index-cells-0.result ≡ top_of (term_of c.parts-base.result.0.now) =
    c.index-cells-0.is ∙ (ap (λ cs. get_or cs 0 c.index-cells-0.result) (whole c.parts-base.result.0.now c.parts-base.ensures.whole.leaves) ∙ first_cell (term_of c.parts-base.result.0.now) c.index-cells-0.result) in
    let same : shifted_cell c.parts-base.result.1 c.index-cells-0.result ≡ top_of c.args.self.now =
    ap (shifted_cell c.parts-base.result.1) first ∙ (sym (top_of-shifted c.parts-base.result.1 (term_of c.parts-base.result.0.now)) ∙ ap top_of c.parts-base.ensures.term) in
    subst (λ u. IfOk c.shifted.result (λ cell. cell ≡ u)) same c.shifted.ensures
