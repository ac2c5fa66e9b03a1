use Rattle.std.proofs.Common.{◌≤◌, ◌<◌, ◌∷◌, length, sym, subst}
use Rattle.std.proofs.lemmas.Result.{IfOk-weaker}
use Rattle.au_model.specs.Terms.Each.{Each}
use Rattle.cell_store.specs.MadeBindings.{AreMadeSince, AreSinceMark}
use Rattle.cell_store.specs.StoreView.{StoreView}
use Rattle.cell_store.specs.declared.mark.Mark.{Mark}
use Rattle.cell_store.proofs.MadeBindingLemmas.{made_since_mark}
use Rattle.cell_store.proofs.StoreLemmas.{parts}
use Rattle.cell_store.proofs.store.Store.made_since_floor.Goals as goal

pub bindings_after-requires-clause-trail : goal.bindings_after-requires-clause-trail
bindings_after-requires-clause-trail c =
    let s = c.self.inside in
    subst (λ (m : Mark). m.trail ≤ length c.deref.result.now) (sym c.floor.ensures) (subst (λ t. s.marks.floor.trail ≤ length t) (sym c.deref.ensures.value) c.self.invariant.within.0.older.trail)

pub bindings_after-requires-clause-variables : goal.bindings_after-requires-clause-variables
bindings_after-requires-clause-variables c = let s = c.self.inside in subst (λ (m : Mark). m.variables ≤ length s.cells) (sym c.floor.ensures) c.self.invariant.within.0.older.variables

pub bindings_after-requires-clause-there : goal.bindings_after-requires-clause-there
bindings_after-requires-clause-there c = let s = c.self.inside in subst (Each (λ v. v < length s.cells)) (sym c.deref.ensures.value) c.self.invariant.trail

pub returns : goal.returns
returns c =
    let s = c.self.inside in
    let p = parts s.heap s.cells s.trail.items (s.marks.floor ∷ s.marks.marks) in
    IfOk-weaker c.bindings_after.result _ _ (λ bs since.
    subst (λ (st : StoreView). AreMadeSince st.floor st bs.items) c.self.view_is
    (made_since_mark p c.self.invariant s.marks.floor c.self.invariant.at_marks.0 c.self.invariant.within.0 bs.items
    (subst (λ m. AreSinceMark m s.trail.items s.cells bs.items) c.floor.ensures (subst (λ t. AreSinceMark c.floor.result t s.cells bs.items) c.deref.ensures.value since)))) c.bindings_after.ensures
