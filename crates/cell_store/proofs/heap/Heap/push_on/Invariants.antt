use Rattle.cell_store.specs.HeapView.{heap_text, GrowsHeap}
use Rattle.cell_store.proofs.ListGoalLemmas.{AddsFrom}
use Rattle.cell_store.proofs.heap.Heap.push_on.Given as goal

abbrev pub invariant-loop-left : goal.invariant-loop-left
invariant-loop-left l = record {
  adds : AddsFrom (heap_text l.fn.self) (heap_text l.self) l.term l.fn.stack.items l.stack.items l.left;
  grown : GrowsHeap l.fn.self l.self;
}

abbrev pub decreases-loop-left : goal.decreases-loop-left
decreases-loop-left l = l.left
