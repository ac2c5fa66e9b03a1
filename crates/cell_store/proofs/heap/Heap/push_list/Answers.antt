use Rattle.std.proofs.Common.{◌-◌, ◌≡◌, ◌<◌, suc, drop, length, ap, ◌∙◌, subst, arith}
use Rattle.std.specs.Prelude.{codes}
use Rattle.au_term.specs.declared.cell.Cell.TheVariants.{Functor}
use Rattle.au_model.specs.Terms.Forms.{binary, list_term}
use Rattle.clause_compile.specs.Places.{AddsCell}
use Rattle.cell_store.specs.HeapView.{heap_text}
use Rattle.cell_store.specs.ListGoals.{AddsTerm}
use Rattle.cell_store.proofs.HeapGrowthLemmas.{grows_same, grows_twice}
use Rattle.cell_store.proofs.ListGoalLemmas.{two_there, compound_of_two, list_from}
use Rattle.cell_store.proofs.heap.Heap.push_list.Goals as goal

pub returns-in_err-ascii-clause-grown : goal.returns-in_err-ascii-clause-grown
returns-in_err-ascii-clause-grown c = grows_same c.args.self.now c.requires.heap

pub returns-in_err-dot-clause-grown : goal.returns-in_err-dot-clause-grown
returns-in_err-dot-clause-grown c = grows_same c.args.self.now c.requires.heap

pub push_compound-requires-clause-enough : goal.push_compound-requires-clause-enough
push_compound-requires-clause-enough c =
    two_there (heap_text c.args.self.now) (heap_text c.loop-left.self) (heap_text c.push_on.new.self) c.index-items-left.result (list_term (drop c.loop-left.left c.args.items.now))
    c.args.stack.now.items c.loop-left.stack.items c.push_on.new.stack.items c.loop-left.invariant.adds c.in_ok-push_on.ensures.added

pub loop-left-preserved : goal.loop-left-preserved
loop-left-preserved c =
    let items = c.args.items.now in
    let i = c.loop-left.left - 1 in
    let item = c.index-items-left.result in
    let one : c.loop-left.left ≡ suc i = omega (arith, c.loop-left-test.true) in
    let within : i < length items = (let w = c.loop-left.invariant.within in omega (arith, w, one)) in
    let functor = subst (λ f. AddsCell (heap_text c.push_on.new.self) (heap_text c.push_compound.new.self) (Functor f 2) c.push_on.new.stack.items c.push_compound.new.stack.items) c.in_ok-dot.ensures c.in_ok-push_compound.ensures.added in
    let adds = compound_of_two (heap_text c.args.self.now) (heap_text c.loop-left.self) (heap_text c.push_on.new.self) (heap_text c.push_compound.new.self) (codes ".") item (list_term (drop c.loop-left.left items))
    c.args.stack.now.items c.loop-left.stack.items c.push_on.new.stack.items c.push_compound.new.stack.items c.loop-left.invariant.adds c.in_ok-push_on.ensures.added functor in
    let list = ap (λ n. binary (codes ".") item (list_term (drop n items))) one ∙ list_from items i item within c.index-items-left.is in
    record {
      within = omega (arith, within);
      adds = subst (λ t. AddsTerm (heap_text c.args.self.now) (heap_text c.push_compound.new.self) t c.args.stack.now.items c.push_compound.new.stack.items) list adds;
      grown = grows_twice c.args.self.now c.loop-left.self c.push_compound.new.self c.loop-left.invariant.grown (grows_twice c.loop-left.self c.push_on.new.self c.push_compound.new.self c.in_ok-push_on.ensures.grown c.in_ok-push_compound.ensures.grown);
    }
