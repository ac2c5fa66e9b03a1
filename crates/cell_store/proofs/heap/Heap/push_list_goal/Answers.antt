use Rattle.std.proofs.Common.{subst}
use Rattle.std.specs.Prelude.{codes}
use Rattle.au_term.specs.declared.cell.Cell.TheVariants.{Functor}
use Rattle.au_model.specs.Terms.Forms.{list_term}
use Rattle.clause_compile.specs.Places.{AddsCell}
use Rattle.cell_store.specs.HeapView.{heap_text}
use Rattle.cell_store.specs.ListGoals.{AddsTerm, list_goal}
use Rattle.cell_store.proofs.ListGoalLemmas.{two_there, compound_of_two, goal_placed}
use Rattle.cell_store.proofs.heap.Heap.push_list_goal.Goals as goal

pub push_compound-requires-clause-enough : goal.push_compound-requires-clause-enough
push_compound-requires-clause-enough c =
    two_there (heap_text c.args.self.now) (heap_text c.push_list.new.self) (heap_text c.push_on.new.self) c.args.term.now (list_term c.args.items.now)
    c.new-stack.result.items c.push_list.new.stack.items c.push_on.new.stack.items c.in_ok-push_list.ensures.added c.in_ok-push_on.ensures.added

pub returns-clause-placed : goal.returns-clause-placed
returns-clause-placed c =
    let old = heap_text c.args.self.now in
    let new = heap_text c.push_compound.new.self in
    let stack = c.push_compound.new.stack.items in
    let functor = subst (λ f. AddsCell (heap_text c.push_on.new.self) new (Functor f 2) c.push_on.new.stack.items stack) c.in_ok-equals.ensures c.in_ok-push_compound.ensures.added in
    let adds = compound_of_two old (heap_text c.push_list.new.self) (heap_text c.push_on.new.self) new (codes "=") c.args.term.now (list_term c.args.items.now)
    c.new-stack.result.items c.push_list.new.stack.items c.push_on.new.stack.items stack c.in_ok-push_list.ensures.added c.in_ok-push_on.ensures.added functor in
    goal_placed old new c.args.term.now c.args.items.now stack c.pop.new.self.items c.in-Some.place (subst (λ before. AddsTerm old new (list_goal c.args.term.now c.args.items.now) before stack) c.new-stack.ensures.items adds) c.in-Some.ensures.items
