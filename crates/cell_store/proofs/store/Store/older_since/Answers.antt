use Rattle.std.proofs.Common.{◌≡◌, ◌<◌, ◌∙◌, ◌∷◌, length, map, sym, ap, subst, arith}
use Rattle.std.proofs.lemmas.List.{length-map}
use Rattle.std.proofs.lemmas.Result.{IfOk-weaker}
use Rattle.cell_store.specs.MadeBindings.{AreOlderOf, AreOlderSince}
use Rattle.cell_store.specs.StoreView.{StoreView, IsConsistentAt, moment_at}
use Rattle.cell_store.specs.Undoing.{IsWithin}
use Rattle.cell_store.specs.declared.mark.Mark.{Mark}
use Rattle.cell_store.proofs.MadeBindingLemmas.{taken_rest}
use Rattle.cell_store.proofs.OlderBindingLemmas.{older_since}
use Rattle.cell_store.proofs.StoreLemmas.{parts}
use Rattle.cell_store.proofs.UndoingLemmas.{each_at, mapped_at}
use Rattle.cell_store.proofs.store.Store.older_since.Goals as goal

pub returns : goal.returns
returns c =
    let s = c.self.inside in
    let p = parts s.heap s.cells s.trail.items (s.marks.floor ∷ s.marks.marks) in
    let m : Mark = c.at-at.result in
    let seen : map (moment_at p) s.marks.marks ≡ c.args.self.now.marks = ap (λ (st : StoreView). st.marks) c.self.view_is in
    let long : length s.marks.marks ≡ length c.args.self.now.marks = sym (length-map s.marks.marks (moment_at p)) ∙ ap length seen in
    let within : c.args.mark < length s.marks.marks = let lt = c.requires in omega (arith, long, lt) in
    let old = each_at (IsConsistentAt p) s.marks.marks c.args.mark m c.self.invariant.at_marks.1 within c.at-at.ensures.at in
    let own = each_at (IsWithin p) s.marks.marks c.args.mark m c.self.invariant.within.1 within c.at-at.ensures.at in
    IfOk-weaker c.older_variables.result _ _ (λ vs of before after moment listed place.
    let marked : moment ≡ moment_at p m = mapped_at (moment_at p) s.marks.marks c.args.mark m before after moment within c.at-at.ensures.at (seen ∙ listed) place in
    subst (λ x. AreOlderSince x c.args.self.now vs.items) (sym marked) (subst (λ st. AreOlderSince (moment_at p m) st vs.items) c.self.view_is
    (older_since p c.self.invariant m old own vs.items (subst (λ t. AreOlderOf t m.variables vs.items) (taken_rest m.trail c.deref.result.now s.trail.items c.deref.ensures.value) of)))) c.older_variables.ensures
