use Rattle.std.proofs.Common.{◌≡◌, ◌≤◌, length, drop}
use Rattle.au_term.specs.PrefixOrder.{cells_of, terms_of}
use Rattle.clause_compile.specs.Places.{Keeps, ArePlacesOf, meanings}
use Rattle.cell_store.specs.HeapView.{heap_text, GrowsHeap}
use Rattle.cell_store.proofs.heap.Heap.push_term.Given as goal

abbrev pub invariant-loop-left : goal.invariant-loop-left
invariant-loop-left l = record {
  within : l.left ≤ length (cells_of l.term);
  keeps : Keeps (heap_text l.fn.self) (heap_text l.self);
  stand : ArePlacesOf (heap_text l.self) l.stack.items;
  means : meanings (heap_text l.self) l.stack.items ≡ terms_of (drop l.left (cells_of l.term));
  grown : GrowsHeap l.fn.self l.self;
}

abbrev pub decreases-loop-left : goal.decreases-loop-left
decreases-loop-left l = l.left
