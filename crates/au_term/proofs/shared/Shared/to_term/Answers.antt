use Rattle.std.proofs.Common.{◌≡◌, ap, ◌∙◌, sym, subst, arith, map}
use Rattle.std.specs.Result.{IfOk}
use Rattle.std.proofs.lemmas.List.{take_all}
use Rattle.au_term.specs.PrefixOrder.{term_of, IsTerm, term_of-cells_of}
use Rattle.au_term.specs.Shifted.{shifted_cell}
use Rattle.au_term.proofs.ShiftLemmas.{bound_at, bound_whole, shifted_cells, shifted_term}
use Rattle.au_term.proofs.shared.Shared.to_term.Goals as goal

pub shifted-requires : goal.shifted-requires
shifted-requires c =
    omega (arith, bound_at c.parts-base.result.0.now c.loop-cell.cell-index c.cell-item.result c.loop-cell-test.true c.cell-item.is, bound_whole c.parts-base.result.0.now c.parts-base.ensures.whole, c.parts-base.ensures.fits)

pub from_cells-requires : goal.from_cells-requires
from_cells-requires c =
    let all : c.loop-cell.shifted.items ≡ map (shifted_cell c.parts-base.result.1) c.parts-base.result.0.now =
    c.loop-cell.invariant ∙ ap (map (shifted_cell c.parts-base.result.1)) (take_all _ c.parts-base.result.0.now (omega arith)) in
    subst IsTerm (sym all) (shifted_term c.parts-base.result.1 c.parts-base.result.0.now c.parts-base.ensures.whole c.parts-base.ensures.fits)

pub returns : goal.returns
returns c =
    let all : c.loop-cell.shifted.items ≡ map (shifted_cell c.parts-base.result.1) c.parts-base.result.0.now =
    c.loop-cell.invariant ∙ ap (map (shifted_cell c.parts-base.result.1)) (take_all _ c.parts-base.result.0.now (omega arith)) in
    let same : term_of c.loop-cell.shifted.items ≡ c.args.self.now =
    ap term_of (all ∙ shifted_cells c.parts-base.result.1 c.parts-base.result.0.now c.parts-base.ensures.whole) ∙ (term_of-cells_of _ ∙ c.parts-base.ensures.term) in
    subst (λ u. IfOk c.from_cells.result (λ t. t ≡ u)) same c.from_cells.ensures.term
