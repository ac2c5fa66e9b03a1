use Rattle.std.proofs.Common.{◌≡◌, ◌<◌, ◌∙◌, ◌∷◌, length, map, sym, ap, arith}
use Rattle.std.proofs.lemmas.List.{length-map}
use Rattle.cell_store.specs.StoreView.{Moment, StoreView, IsConsistentAt, moment_at}
use Rattle.cell_store.specs.Undoing.{IsWithin}
use Rattle.cell_store.specs.declared.mark.Mark.{Mark}
use Rattle.cell_store.proofs.OlderBindingLemmas.{long}
use Rattle.cell_store.proofs.StoreLemmas.{parts}
use Rattle.cell_store.proofs.UndoingLemmas.{each_at, mapped_at}
use Rattle.cell_store.proofs.store.Store.next_at.Goals as goal

pub returns : goal.returns
returns c = λ before after moment listed place.
    let s = c.self.inside in
    let p = parts s.heap s.cells s.trail.items (s.marks.floor ∷ s.marks.marks) in
    let m : Mark = c.at.result in
    let seen : map (moment_at p) s.marks.marks ≡ c.args.self.now.marks = ap (λ (st : StoreView). st.marks) c.self.view_is in
    let many : length s.marks.marks ≡ length c.args.self.now.marks = sym (length-map s.marks.marks (moment_at p)) ∙ ap length seen in
    let within : c.args.mark < length s.marks.marks = let lt = c.requires in omega (arith, many, lt) in
    let own = each_at (IsWithin p) s.marks.marks c.args.mark m c.self.invariant.within.1 within c.at.ensures.at in
    let old = each_at (IsConsistentAt p) s.marks.marks c.args.mark m c.self.invariant.at_marks.1 within c.at.ensures.at in
    let marked : moment ≡ moment_at p m = mapped_at (moment_at p) s.marks.marks c.args.mark m before after moment within c.at.ensures.at (seen ∙ listed) place in
    sym (ap (λ (x : Moment). x.next) marked ∙ long p c.self.invariant m old own)
