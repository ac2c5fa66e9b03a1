use Rattle.std.proofs.Common.{[], ◌∷◌, ◌≡◌, ◌∙◌, ◌<◌, ◌^◌, refl, ap, sym, subst, length, arith}
use Rattle.std.specs.Arc.{arc_value}
use Rattle.clause_compile.specs.AtomNumbers.{AreDistinct}
use Rattle.clause_compile.specs.Places.{CodeView, AreSound}
use Rattle.cell_store.specs.StoreView.{IsConsistent, view_of, new_store}
use Rattle.cell_store.specs.Undoing.{MarksView}
use Rattle.cell_store.proofs.StoreLemmas.{parts, first_mark, new_parts, new_heap, new_view}
use Rattle.cell_store.proofs.store.Store.new.Goals.{After-new-6}
use Rattle.cell_store.proofs.store.Store.new.Goals as goal

pub invariant_of-result : goal.invariant_of-result
invariant_of-result c =
    let program = arc_value c.args.program in
    let text : AreSound (length program.names) program.places = subst (λ (p : CodeView). AreSound (length p.names) p.places) c.deref-2.ensures c.len.ensures.sound in
    let count : c.len.result ≡ length program.places = c.len.ensures.count ∙ ap (λ (p : CodeView). length p.places) c.deref-2.ensures in
    let few : length program.places < 2 ^ 32 = let a = c.if-len.false in omega arith in
    let apart : AreDistinct program.names = subst (λ (p : CodeView). AreDistinct p.names) c.deref.ensures c.names-names.ensures.distinct in
    subst (λ (w : MarksView). IsConsistent (parts c.in_ok-heap.heap c.new-2.result c.new-3.result.items (w.floor ∷ w.marks))) (sym c.new-4.ensures)
    (subst (λ t. IsConsistent (parts c.in_ok-heap.heap c.new-2.result t (first_mark ∷ []))) (sym c.new-3.ensures.items)
    (subst (λ cs. IsConsistent (parts c.in_ok-heap.heap cs [] (first_mark ∷ []))) (sym c.new-2.ensures) (new_parts program text few apart c.in_ok-heap.heap c.in_ok-heap.ensures)))

whole : (c : After-new-6) → view_of (parts c.in_ok-heap.heap c.new-2.result c.new-3.result.items (c.new-4.result.floor ∷ c.new-4.result.marks)) ≡ new_store (arc_value c.args.program)
whole c =
    ap (λ (w : MarksView). view_of (parts c.in_ok-heap.heap c.new-2.result c.new-3.result.items (w.floor ∷ w.marks))) c.new-4.ensures
    ∙ new_view (arc_value c.args.program) c.in_ok-heap.heap c.new-2.result c.new-3.result.items [] c.in_ok-heap.ensures c.new-2.ensures c.new-3.ensures.items refl

pub returns-clause-new : goal.returns-clause-new
returns-clause-new c = whole c

pub returns-clause-text : goal.returns-clause-text
returns-clause-text c = new_heap (arc_value c.args.program) c.in_ok-heap.heap c.in_ok-heap.ensures
