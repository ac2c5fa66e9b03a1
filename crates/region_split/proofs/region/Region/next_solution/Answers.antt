use Rattle.std.proofs.Common.{◌≡◌, ◌-◌, arith, length, slice_set, subst}
use Rattle.std.specs.Arc.{arc_value}
use Rattle.region_split.specs.Regions.{RegionView}
use Rattle.region_split.specs.StackOperations.{TakesSolution}
use Rattle.region_split.specs.declared.choice.ChoicePoint.{ChoicePoint}
use Rattle.region_split.proofs.NextClauseLemmas.{mark_there, shorter_is, solution_taken, last_taken}
use Rattle.region_split.proofs.region.Region.next_solution.Goals as goal

pub undo_to-requires : goal.undo_to-requires
undo_to-requires c =
    let s = c.self.inside in
    let r : RegionView = record { text = arc_value s.text; store = s.store; frames = s.frames.items; choices = s.choices.items } in
    let many : c.len-count.result ≡ length s.choices.items = let e = c.len-count.ensures in omega (arith, e) in
    mark_there r c.self.invariant c.len-count.result many c.if-count-eq0.false

pub invariant_of-self-then-is_last : goal.invariant_of-self-then-is_last
invariant_of-self-then-is_last c =
    let s = c.self.inside in
    let r : RegionView = record { text = arc_value s.text; store = s.store; frames = s.frames.items; choices = s.choices.items } in
    let many : c.len-count.result ≡ length s.choices.items = let e = c.len-count.ensures in omega (arith, e) in
    shorter_is r c.self.invariant c.len-count.result many c.if-count-eq0.false c.undo_to.new.self c.undo_to.ensures c.index_mut-newest.result.now c.index_mut-newest.ensures.value c.next_solution.new.self c.in-Some.solution c.in-Some.is_last c.in-Some.ensures

pub returns-then-is_last : goal.returns-then-is_last
returns-then-is_last c =
    let s = c.self.inside in
    let r : RegionView = record { text = arc_value s.text; store = s.store; frames = s.frames.items; choices = s.choices.items } in
    let many : c.len-count.result ≡ length s.choices.items = let e = c.len-count.ensures in omega (arith, e) in
    subst (λ (x : RegionView). TakesSolution x c.take_newest-last.new.self c.in-Some.solution c.index_mut-newest.result.now.after) c.self.view_is
    (last_taken r c.self.invariant c.len-count.result many c.if-count-eq0.false c.undo_to.new.self c.undo_to.ensures c.index_mut-newest.result.now c.index_mut-newest.ensures.value c.next_solution.new.self c.in-Some.solution c.in-Some.is_last c.in-Some.ensures c.if-is_last.true c.take_newest-last.new.self c.take_newest-last.result c.take_newest-last.ensures)

pub invariant_of-self-else-is_last : goal.invariant_of-self-else-is_last
invariant_of-self-else-is_last c =
    let s = c.self.inside in
    let r : RegionView = record { text = arc_value s.text; store = s.store; frames = s.frames.items; choices = s.choices.items } in
    let many : c.len-count.result ≡ length s.choices.items = let e = c.len-count.ensures in omega (arith, e) in
    shorter_is r c.self.invariant c.len-count.result many c.if-count-eq0.false c.undo_to.new.self c.undo_to.ensures c.index_mut-newest.result.now c.index_mut-newest.ensures.value c.next_solution.new.self c.in-Some.solution c.in-Some.is_last c.in-Some.ensures

pub returns : goal.returns
returns c =
    let s = c.self.inside in
    let r : RegionView = record { text = arc_value s.text; store = s.store; frames = s.frames.items; choices = s.choices.items } in
    let many : c.len-count.result ≡ length s.choices.items = let e = c.len-count.ensures in omega (arith, e) in
    let newest : ChoicePoint = record { alternatives = c.next_solution.new.self; after = c.index_mut-newest.result.now.after; frames = c.index_mut-newest.result.now.frames } in
    let new : RegionView = record r { store = c.undo_to.new.self; choices = slice_set s.choices.items (c.len-count.result - 1) newest } in
    subst (λ (x : RegionView). TakesSolution x new c.in-Some.solution c.index_mut-newest.result.now.after) c.self.view_is
    (solution_taken r c.self.invariant c.len-count.result many c.if-count-eq0.false c.undo_to.new.self c.undo_to.ensures c.index_mut-newest.result.now c.index_mut-newest.ensures.value c.next_solution.new.self c.in-Some.solution c.in-Some.is_last c.in-Some.ensures)
