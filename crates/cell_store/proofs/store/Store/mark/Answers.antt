use Rattle.std.proofs.Common.{◌≡◌, ◌∷◌, [], ◌∙◌, ap, sym, subst}
use Rattle.cell_store.specs.StoreView.{IsConsistent}
use Rattle.cell_store.specs.Undoing.{MarksView, mark_now}
use Rattle.cell_store.specs.declared.mark.Mark.{Mark}
use Rattle.cell_store.proofs.StoreLemmas.{parts, marked_parts}
use Rattle.cell_store.proofs.store.Store.mark.Goals as goal

pub invariant_of-self-2 : goal.invariant_of-self-2
invariant_of-self-2 c =
    let s = c.self.inside in
    let m : Mark = c.mark_of.result in
    let is : m ≡ mark_now (parts s.heap s.cells s.trail.items (s.marks.floor ∷ s.marks.marks)) = c.mark_of.ensures ∙ ap (λ t. mark_now (parts s.heap s.cells t [])) c.deref.ensures.value in
    subst (λ (w : MarksView). IsConsistent (parts s.heap s.cells s.trail.items (w.floor ∷ w.marks))) (sym c.in_ok-push.ensures.ok) (marked_parts s.heap s.cells s.trail.items s.marks.floor s.marks.marks m c.self.invariant is)
