use Rattle.std.proofs.Common.{◌∙◌, ◌∷◌, suc, ap, sym, subst}
use Rattle.cell_store.specs.StoreView.{IsConsistent, view_of, with_marks}
use Rattle.cell_store.specs.Undoing.{MarksView}
use Rattle.cell_store.proofs.StoreLemmas.{parts, kept_parts, kept_view}
use Rattle.cell_store.proofs.store.Store.keep_marks.Goals as goal

pub invariant_of-self : goal.invariant_of-self
invariant_of-self c =
    let s = c.self.inside in
    subst (λ (w : MarksView). IsConsistent (parts s.heap s.cells s.trail.items (w.floor ∷ w.marks))) (sym c.keep.ensures) (kept_parts s.heap s.cells s.trail.items (s.marks.floor ∷ s.marks.marks) (suc c.args.count) c.self.invariant)

pub returns : goal.returns
returns c =
    let s = c.self.inside in
    ap (λ (w : MarksView). view_of (parts s.heap s.cells s.trail.items (w.floor ∷ w.marks))) c.keep.ensures ∙ (kept_view s.heap s.cells s.trail.items s.marks.floor s.marks.marks c.args.count ∙ ap (with_marks c.args.count) c.self.view_is)
