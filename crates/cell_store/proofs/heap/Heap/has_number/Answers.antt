use Rattle.std.proofs.Common.{◌≡◌, ◌<◌, ◌+◌, ◌∙◌, length, length-append, sym, ap, arith}
use Rattle.std.specs.Arc.{arc_value}
use Rattle.std.specs.Cmp.Lexicographic.{same_text}
use Rattle.clause_compile.specs.Places.{CodeView}
use Rattle.cell_store.specs.HeapView.{HeapView, heap_text}
use Rattle.cell_store.proofs.HeapGrowthLemmas.{there_number}
use Rattle.cell_store.proofs.heap.Heap.has_number.Goals as goal
use Rattle.cell_store.proofs.heap.Heap.has_number.Goals.{After-eq, else-at-program-via-then-at-program+else-at-program-2, else-at-program-via-else-at-program}

pub returns : goal.returns
returns c =
    let s = c.self.inside in
    let h = c.args.self.now in
    let program : c.names-program.result ≡ length (arc_value s.program).names = c.names-program.ensures.count ∙ ap (λ (p : CodeView). length p.names) c.deref.ensures in
    let count : length (heap_text h).names ≡ length (arc_value s.program).names + length s.names = ap (λ (g : HeapView). length (heap_text g).names) (sym c.self.view_is) ∙ length-append (arc_value s.program).names s.names in
    let within : c.args.number < length (heap_text h).names = elim c.else-at-program.branch [
      | else-at-program-via-then-at-program+else-at-program-2 w ↦ omega (arith, program, count, w.if-at-program.true, w.len.ensures.count, w.if-at-program-2.false)
      | else-at-program-via-else-at-program w ↦ omega (arith, program, count, w.if-at-program.false)
    ] in
    λ same. there_number h c.args.name.now c.args.number within (sym c.name.ensures ∙ same_text c.name.result.now c.args.name.now (sym (sym c.eq.ensures ∙ same)))
