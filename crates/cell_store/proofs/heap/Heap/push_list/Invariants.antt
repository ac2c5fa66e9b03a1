use Rattle.std.proofs.Common.{◌≤◌, length, drop}
use Rattle.au_model.specs.Terms.Forms.{list_term}
use Rattle.cell_store.specs.HeapView.{heap_text, GrowsHeap}
use Rattle.cell_store.specs.ListGoals.{AddsTerm}
use Rattle.cell_store.proofs.heap.Heap.push_list.Given as goal

abbrev pub invariant-loop-left : goal.invariant-loop-left
invariant-loop-left l = record {
  within : l.left ≤ length l.items;
  adds : AddsTerm (heap_text l.fn.self) (heap_text l.self) (list_term (drop l.left l.items)) l.fn.stack.items l.stack.items;
  grown : GrowsHeap l.fn.self l.self;
}

abbrev pub decreases-loop-left : goal.decreases-loop-left
decreases-loop-left l = l.left
