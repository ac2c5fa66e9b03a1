use Rattle.std.proofs.Common.{◌∷◌, [], ◌∙◌, ap, sym, subst}
use Rattle.au_model.specs.Terms.Each.{Each}
use Rattle.cell_store.specs.StoreView.{StoreView, IsConsistent, IsOlderMoment, view_of, raised}
use Rattle.cell_store.specs.Undoing.{MarksView, mark_now}
use Rattle.cell_store.proofs.MarkLemmas.{raised_parts, raised_view, older_moments}
use Rattle.cell_store.proofs.StoreLemmas.{parts}
use Rattle.cell_store.proofs.store.Store.raise_floor.Goals as goal

pub invariant_of-self-2 : goal.invariant_of-self-2
invariant_of-self-2 c =
    let s = c.self.inside in
    let is = c.mark_of-floor.ensures ∙ ap (λ t. mark_now (parts s.heap s.cells t [])) c.deref.ensures.value in
    subst (λ (w : MarksView). IsConsistent (parts s.heap s.cells s.trail.items (w.floor ∷ w.marks))) (sym c.in_ok-raise.ensures.ok)
    (raised_parts s.heap s.cells s.trail.items s.marks.floor s.marks.marks c.mark_of-floor.result c.self.invariant is)

pub returns-clause-ok : goal.returns-clause-ok
returns-clause-ok c =
    let s = c.self.inside in
    let is = c.mark_of-floor.ensures ∙ ap (λ t. mark_now (parts s.heap s.cells t [])) c.deref.ensures.value in
    ap (λ (w : MarksView). view_of (parts s.heap s.cells s.trail.items (w.floor ∷ w.marks))) c.in_ok-raise.ensures.ok
    ∙ (raised_view s.heap s.cells s.trail.items s.marks.floor s.marks.marks c.mark_of-floor.result c.self.invariant is ∙ ap raised c.self.view_is)

pub returns-clause-older : goal.returns-clause-older
returns-clause-older c =
    let s = c.self.inside in
    let is = c.mark_of-floor.ensures ∙ ap (λ t. mark_now (parts s.heap s.cells t [])) c.deref.ensures.value in
    subst (λ (st : StoreView). Each (IsOlderMoment st) st.marks) c.self.view_is
    (older_moments s.heap s.cells s.trail.items s.marks.floor s.marks.marks c.mark_of-floor.result c.self.invariant is s.marks.marks c.self.invariant.at_marks.1 c.self.invariant.within.1)

pub returns-in_err-raise-clause-older : goal.returns-in_err-raise-clause-older
returns-in_err-raise-clause-older c =
    let s = c.self.inside in
    let is = c.mark_of-floor.ensures ∙ ap (λ t. mark_now (parts s.heap s.cells t [])) c.deref.ensures.value in
    subst (λ (st : StoreView). Each (IsOlderMoment st) st.marks) c.self.view_is
    (older_moments s.heap s.cells s.trail.items s.marks.floor s.marks.marks c.mark_of-floor.result c.self.invariant is s.marks.marks c.self.invariant.at_marks.1 c.self.invariant.within.1)
