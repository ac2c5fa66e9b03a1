use Rattle.std.proofs.Common.{◌≡◌, ◌<◌, ◌≤◌, ◌∙◌, ◌∷◌, ℕ, List, length, map, sym, ap, subst, arith}
use Rattle.std.proofs.lemmas.List.{length-map}
use Rattle.std.proofs.lemmas.Result.{IfOk-weaker}
use Rattle.au_model.specs.Terms.Each.{Each}
use Rattle.cell_store.specs.MadeBindings.{AreMadeSince, AreSinceMark}
use Rattle.cell_store.specs.StoreView.{StoreView, IsConsistentAt, moment_at}
use Rattle.cell_store.specs.Undoing.{Parts, IsWithin}
use Rattle.cell_store.specs.declared.mark.Mark.{Mark}
use Rattle.cell_store.proofs.MadeBindingLemmas.{made_since_mark}
use Rattle.cell_store.proofs.StoreLemmas.{parts}
use Rattle.cell_store.proofs.UndoingLemmas.{each_at, mapped_at}
use Rattle.cell_store.proofs.store.Store.made_since.Goals as goal

there : (p : Parts) (ms : List Mark) (now : StoreView) (i : ℕ) → map (moment_at p) ms ≡ now.marks → i < length now.marks → i < length ms
there p ms now i seen lt = let e : length ms ≡ length now.marks = sym (length-map ms (moment_at p)) ∙ ap length seen in omega (arith, e, lt)

pub bindings_after-requires-clause-trail : goal.bindings_after-requires-clause-trail
bindings_after-requires-clause-trail c =
    let s = c.self.inside in
    let p = parts s.heap s.cells s.trail.items (s.marks.floor ∷ s.marks.marks) in
    let within = there p s.marks.marks c.args.self.now c.args.mark (ap (λ (st : StoreView). st.marks) c.self.view_is) c.requires in
    let own = each_at (IsWithin p) s.marks.marks c.args.mark c.at.result c.self.invariant.within.1 within c.at.ensures.at in
    subst (λ t. c.at.result.trail ≤ length t) (sym c.deref.ensures.value) own.older.trail

pub bindings_after-requires-clause-variables : goal.bindings_after-requires-clause-variables
bindings_after-requires-clause-variables c =
    let s = c.self.inside in
    let p = parts s.heap s.cells s.trail.items (s.marks.floor ∷ s.marks.marks) in
    let within = there p s.marks.marks c.args.self.now c.args.mark (ap (λ (st : StoreView). st.marks) c.self.view_is) c.requires in
    let own = each_at (IsWithin p) s.marks.marks c.args.mark c.at.result c.self.invariant.within.1 within c.at.ensures.at in
    own.older.variables

pub bindings_after-requires-clause-there : goal.bindings_after-requires-clause-there
bindings_after-requires-clause-there c = let s = c.self.inside in subst (Each (λ v. v < length s.cells)) (sym c.deref.ensures.value) c.self.invariant.trail

pub returns : goal.returns
returns c =
    let s = c.self.inside in
    let p = parts s.heap s.cells s.trail.items (s.marks.floor ∷ s.marks.marks) in
    let m : Mark = c.at.result in
    let seen : map (moment_at p) s.marks.marks ≡ c.args.self.now.marks = ap (λ (st : StoreView). st.marks) c.self.view_is in
    let within = there p s.marks.marks c.args.self.now c.args.mark seen c.requires in
    let old = each_at (IsConsistentAt p) s.marks.marks c.args.mark m c.self.invariant.at_marks.1 within c.at.ensures.at in
    let own = each_at (IsWithin p) s.marks.marks c.args.mark m c.self.invariant.within.1 within c.at.ensures.at in
    IfOk-weaker c.bindings_after.result _ _ (λ bs since before after moment listed place.
    let marked : moment ≡ moment_at p m = mapped_at (moment_at p) s.marks.marks c.args.mark m before after moment within c.at.ensures.at (seen ∙ listed) place in
    subst (λ x. AreMadeSince x c.args.self.now bs.items) (sym marked) (subst (λ st. AreMadeSince (moment_at p m) st bs.items) c.self.view_is
    (made_since_mark p c.self.invariant m old own bs.items (subst (λ t. AreSinceMark m t s.cells bs.items) c.deref.ensures.value since)))) c.bindings_after.ensures
