use Rattle.std.proofs.Common.{◌≡◌, sym, ap, ◌∙◌, arith, drop, subst, []}
use Rattle.std.proofs.lemmas.List.{drop_all}
use Rattle.au_term.specs.PrefixOrder.{cells_of, AreValidCells}
use Rattle.au_term.proofs.VariableBoundLemmas.{cells_bound, cells_bound-cells_of, AreSound-at}
use Rattle.au_term.proofs.WholeTermLemmas.{whole}
use Rattle.au_term.proofs.flat.FlatTerm.bound.Goals as goal

pub bound-requires : goal.bound-requires
bound-requires c =
    AreSound-at c.deref-cell-items.result.now c.loop-cell.cell-index c.cell-item.result (subst AreValidCells (sym c.deref-cell-items.ensures.value) c.self.invariant.term.sound) c.loop-cell-test.true c.cell-item.is

pub returns : goal.returns
returns c =
    let items = c.deref-cell-items.result.now in
    let none : drop c.loop-cell.cell-index items ≡ [] = drop_all _ items (omega arith) in
    let all : c.loop-cell.bound ≡ cells_bound items = omega (arith, c.loop-cell.invariant, ap cells_bound none) in
    all ∙ (ap cells_bound (c.deref-cell-items.ensures.value ∙ whole c.self.inside.cells.items c.self.invariant.term.leaves ∙ ap cells_of c.self.view_is) ∙ cells_bound-cells_of c.args.self.now)
