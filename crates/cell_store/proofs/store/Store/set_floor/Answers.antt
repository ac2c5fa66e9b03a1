use Rattle.std.proofs.Common.{◌≡◌, ◌∷◌, [], ◌∙◌, ap, sym, subst}
use Rattle.cell_store.specs.StoreView.{StoreView, IsConsistent, moment_at, view_of, over_floor}
use Rattle.cell_store.specs.Undoing.{MarksView, mark_now}
use Rattle.cell_store.proofs.StoreLemmas.{parts, floored_parts, floored_view, none_marked}
use Rattle.cell_store.proofs.store.Store.set_floor.Goals as goal

pub set_floor-requires : goal.set_floor-requires
set_floor-requires c =
    let s = c.self.inside in
    none_marked (moment_at (parts s.heap s.cells s.trail.items (s.marks.floor ∷ s.marks.marks))) s.marks.marks (ap (λ (st : StoreView). st.marks) c.self.view_is ∙ c.requires)

pub invariant_of-self : goal.invariant_of-self
invariant_of-self c =
    let s = c.self.inside in
    let is = c.mark_of-floor.ensures ∙ ap (λ t. mark_now (parts s.heap s.cells t [])) c.deref.ensures.value in
    let none : s.marks.marks ≡ [] = none_marked (moment_at (parts s.heap s.cells s.trail.items (s.marks.floor ∷ s.marks.marks))) s.marks.marks (ap (λ (st : StoreView). st.marks) c.self.view_is ∙ c.requires) in
    subst (λ (w : MarksView). IsConsistent (parts s.heap s.cells s.trail.items (w.floor ∷ w.marks))) (sym c.set_floor.ensures) (floored_parts s.heap s.cells s.trail.items s.marks.floor s.marks.marks c.mark_of-floor.result c.self.invariant is none)

pub returns : goal.returns
returns c =
    let s = c.self.inside in
    let is = c.mark_of-floor.ensures ∙ ap (λ t. mark_now (parts s.heap s.cells t [])) c.deref.ensures.value in
    let none : s.marks.marks ≡ [] = none_marked (moment_at (parts s.heap s.cells s.trail.items (s.marks.floor ∷ s.marks.marks))) s.marks.marks (ap (λ (st : StoreView). st.marks) c.self.view_is ∙ c.requires) in
    ap (λ (w : MarksView). view_of (parts s.heap s.cells s.trail.items (w.floor ∷ w.marks))) c.set_floor.ensures ∙ (floored_view s.heap s.cells s.trail.items s.marks.floor s.marks.marks c.mark_of-floor.result c.self.invariant is none ∙ ap over_floor c.self.view_is)
