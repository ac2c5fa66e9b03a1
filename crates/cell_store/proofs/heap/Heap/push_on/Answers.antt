use Rattle.std.proofs.Common.{◌-◌, ◌≡◌, ◌<◌, suc, length, get_or, ap, ◌∙◌, subst, arith}
use Rattle.au_term.specs.PrefixOrder.{cells_of}
use Rattle.au_term.proofs.VariableBoundLemmas.{AreSound-at}
use Rattle.clause_compile.specs.Places.{AddsCell}
use Rattle.cell_store.specs.HeapView.{heap_text}
use Rattle.cell_store.proofs.HeapGrowthLemmas.{grows_same, grows_twice}
use Rattle.cell_store.proofs.ListGoalLemmas.{none_added, one_added, cell_enough, all_added, unshifted, valid_fits}
use Rattle.cell_store.proofs.heap.Heap.push_on.Goals as goal
use Rattle.cell_store.proofs.heap.Heap.push_on.Goals.{After-index-cells-left}

pub loop-left-init : goal.loop-left-init
loop-left-init c = record {
  adds = none_added (heap_text c.args.self.now) c.args.term.now c.args.stack.now.items (length c.cells-cells.result.now) (ap length c.cells-cells.ensures.cells) c.requires.stand;
  grown = grows_same c.args.self.now c.requires.heap;
}

within : (c : After-index-cells-left) → c.loop-left.left - 1 < length c.cells-cells.result.now
within c = let w = c.loop-left.invariant.adds.within in omega (arith, w, ap length c.cells-cells.ensures.cells)

pub push_cell-requires-clause-sound : goal.push_cell-requires-clause-sound
push_cell-requires-clause-sound c = AreSound-at c.cells-cells.result.now (c.loop-left.left - 1) c.index-cells-left.result c.cells-cells.ensures.whole.sound (within (goal.at.push_cell-requires-clause-sound c).After-index-cells-left) c.index-cells-left.is

pub push_cell-requires-clause-fits : goal.push_cell-requires-clause-fits
push_cell-requires-clause-fits c = valid_fits c.index-cells-left.result (AreSound-at c.cells-cells.result.now (c.loop-left.left - 1) c.index-cells-left.result c.cells-cells.ensures.whole.sound (within (goal.at.push_cell-requires-clause-fits c).After-index-cells-left) c.index-cells-left.is)

one : (c : After-index-cells-left) → c.loop-left.left ≡ suc (c.loop-left.left - 1)
one c = omega (arith, c.loop-left-test.true)

is : (c : After-index-cells-left) → c.index-cells-left.result ≡ get_or (cells_of c.args.term.now) (c.loop-left.left - 1) c.index-cells-left.result
is c = c.index-cells-left.is ∙ ap (λ cs. get_or cs (c.loop-left.left - 1) c.index-cells-left.result) c.cells-cells.ensures.cells

pub push_cell-requires-clause-enough : goal.push_cell-requires-clause-enough
push_cell-requires-clause-enough c =
    let d = (goal.at.push_cell-requires-clause-enough c).After-index-cells-left in
    cell_enough (heap_text c.args.self.now) (heap_text c.loop-left.self) c.args.term.now c.args.stack.now.items c.loop-left.stack.items c.loop-left.left (c.loop-left.left - 1) c.loop-left.invariant.adds (one d) c.index-cells-left.result (is d)

pub loop-left-preserved : goal.loop-left-preserved
loop-left-preserved c =
    let d = (goal.at.loop-left-preserved c).After-index-cells-left in
    let cell = c.index-cells-left.result in
    let added = subst (λ x. AddsCell (heap_text c.loop-left.self) (heap_text c.push_cell.new.self) x c.loop-left.stack.items c.push_cell.new.stack.items) (unshifted cell) c.in_ok-push_cell.ensures.added in
    record {
      adds = one_added (heap_text c.args.self.now) (heap_text c.loop-left.self) c.args.term.now c.args.stack.now.items c.loop-left.stack.items c.loop-left.left (c.loop-left.left - 1) c.loop-left.invariant.adds (one d) cell (is d) (heap_text c.push_cell.new.self) c.push_cell.new.stack.items added;
      grown = grows_twice c.args.self.now c.loop-left.self c.push_cell.new.self c.loop-left.invariant.grown c.in_ok-push_cell.ensures.grown;
    }

pub returns-clause-added : goal.returns-clause-added
returns-clause-added c = all_added (heap_text c.args.self.now) (heap_text c.loop-left.self) c.args.term.now c.args.stack.now.items c.loop-left.stack.items c.loop-left.left c.loop-left.invariant.adds (omega arith)
