use Rattle.std.proofs.Common.{◌≡◌, ◌<◌, ◌+◌, ◌++◌, ◌∷◌, ◌∙◌, length, take, map, slice_index_or, refl, sym, ap, subst, arith}
use Rattle.std.proofs.lemmas.List.{length-map}
use Rattle.cell_store.specs.StoreView.{StoreView, IsConsistent, moment_at, taken_back, view_of, with_marks}
use Rattle.cell_store.specs.Undoing.{MarksView}
use Rattle.cell_store.specs.declared.mark.Mark.{Mark}
use Rattle.cell_store.proofs.StoreLemmas.{parts, over_parts, undone_view}
use Rattle.cell_store.proofs.store.Store.undo_to.Goals as goal

pub overflow_add-mark : goal.overflow_add-mark
overflow_add-mark c = let small = c.at-at.ensures.small in omega (arith, small)

pub invariant_of-self : goal.invariant_of-self
invariant_of-self c =
    let s = c.self.inside in
    let m : Mark = c.at-at.result in
    let seen : length s.marks.marks ≡ length c.args.self.now.marks = sym (length-map s.marks.marks (moment_at (parts s.heap s.cells s.trail.items (s.marks.floor ∷ s.marks.marks)))) ∙ ap (λ (st : StoreView). length st.marks) c.self.view_is in
    let within : c.args.mark < length s.marks.marks = omega (arith, seen, c.requires) in
    let at : m ≡ slice_index_or s.marks.marks c.args.mark m = c.at-at.ensures.at in
    let cells = c.cut_to.ensures ∙ ap (take m.variables) c.free_after.ensures.cells in
    subst (λ (w : MarksView). IsConsistent (parts c.cut_to-2.new.self c.cut_to.new.self c.free_after.new.trail.items (w.floor ∷ w.marks))) (sym c.keep.ensures)
    (over_parts s.heap s.cells s.trail.items s.marks.floor s.marks.marks c.args.mark m c.cut_to-2.new.self c.cut_to.new.self c.free_after.new.trail.items (take (c.args.mark + 1) s.marks.marks) c.self.invariant within at c.cut_to-2.ensures cells c.free_after.ensures.trail refl)

pub returns : goal.returns
returns c = λ before after moment is place.
    let s = c.self.inside in
    let m : Mark = c.at-at.result in
    let seen : length s.marks.marks ≡ length c.args.self.now.marks = sym (length-map s.marks.marks (moment_at (parts s.heap s.cells s.trail.items (s.marks.floor ∷ s.marks.marks)))) ∙ ap (λ (st : StoreView). length st.marks) c.self.view_is in
    let within : c.args.mark < length s.marks.marks = omega (arith, seen, c.requires) in
    let at : m ≡ slice_index_or s.marks.marks c.args.mark m = c.at-at.ensures.at in
    let cells = c.cut_to.ensures ∙ ap (take m.variables) c.free_after.ensures.cells in
    let listed : map (moment_at (parts s.heap s.cells s.trail.items (s.marks.floor ∷ s.marks.marks))) s.marks.marks ≡ before ++ moment ∷ after = ap (λ (st : StoreView). st.marks) c.self.view_is ∙ is in
    ap (λ (w : MarksView). view_of (parts c.cut_to-2.new.self c.cut_to.new.self c.free_after.new.trail.items (w.floor ∷ w.marks))) c.keep.ensures
    ∙ (undone_view s.heap s.cells s.trail.items s.marks.floor s.marks.marks c.args.mark m c.cut_to-2.new.self c.cut_to.new.self c.free_after.new.trail.items (take (c.args.mark + 1) s.marks.marks) c.self.invariant within at c.cut_to-2.ensures cells c.free_after.ensures.trail refl before after moment listed place
    ∙ ap (λ st. taken_back moment (with_marks (c.args.mark + 1) st)) c.self.view_is)
