use Rattle.std.proofs.Common.{◌≡◌, ◌-◌, arith, length, slice_set, sym, subst, ap, ◌∙◌}
use Rattle.std.specs.Arc.{arc_value}
use Rattle.clause_index.specs.Cursors.{IsCursorOf}
use Rattle.region_split.specs.Candidates.{FindsClause, HaveNoEntry}
use Rattle.region_split.specs.Texts.{TextView}
use Rattle.region_split.specs.Regions.{RegionView}
use Rattle.cell_store.specs.StoreView.{meaning}
use Rattle.region_split.specs.StackOperations.{TakesClause}
use Rattle.region_split.specs.declared.choice.Alternatives.TheVariants.{Clauses}
use Rattle.region_split.specs.declared.choice.ChoicePoint.{ChoicePoint}
use Rattle.region_split.specs.declared.choice.Trial.{Trial}
use Rattle.region_split.proofs.NextClauseLemmas.{mark_there, undone_is, goal_there, cursor_there, program_is, none_left, changed_is, others_left}
use Rattle.region_split.proofs.region.Region.next_clause.Goals as goal

pub undo_to-requires : goal.undo_to-requires
undo_to-requires c =
    let s = c.self.inside in
    let r : RegionView = record { text = arc_value s.text; store = s.store; frames = s.frames.items; choices = s.choices.items } in
    let many : c.len-count.result ≡ length s.choices.items = let e = c.len-count.ensures in omega (arith, e) in
    mark_there r c.self.invariant c.len-count.result many c.if-count-eq0.false

pub match_after-requires-clause-program : goal.match_after-requires-clause-program
match_after-requires-clause-program c =
    let s = c.self.inside in
    let r : RegionView = record { text = arc_value s.text; store = s.store; frames = s.frames.items; choices = s.choices.items } in
    let many : c.len-count.result ≡ length s.choices.items = let e = c.len-count.ensures in omega (arith, e) in
    program_is r c.self.invariant c.len-count.result many c.if-count-eq0.false c.undo_to.new.self c.undo_to.ensures ∙ ap (λ (t : TextView). t.code) (sym c.deref.ensures)

pub match_after-requires-clause-there : goal.match_after-requires-clause-there
match_after-requires-clause-there c =
    let s = c.self.inside in
    let r : RegionView = record { text = arc_value s.text; store = s.store; frames = s.frames.items; choices = s.choices.items } in
    let many : c.len-count.result ≡ length s.choices.items = let e = c.len-count.ensures in omega (arith, e) in
    goal_there r c.self.invariant c.len-count.result many c.if-count-eq0.false c.undo_to.new.self c.undo_to.ensures c.index-newest.result.now c.index-newest.ensures c.in-Some.goal c.in-Some.clause c.in-Some.left c.in-Some.ensures

pub match_after-requires-clause-cursor : goal.match_after-requires-clause-cursor
match_after-requires-clause-cursor c =
    let s = c.self.inside in
    let r : RegionView = record { text = arc_value s.text; store = s.store; frames = s.frames.items; choices = s.choices.items } in
    let many : c.len-count.result ≡ length s.choices.items = let e = c.len-count.ensures in omega (arith, e) in
    subst (λ (t : TextView). IsCursorOf t.heads c.in-Some.left) (sym c.deref.ensures) (cursor_there r c.self.invariant c.len-count.result many c.if-count-eq0.false c.undo_to.new.self c.undo_to.ensures c.index-newest.result.now c.index-newest.ensures c.in-Some.goal c.in-Some.clause c.in-Some.left c.in-Some.ensures)

pub invariant_of-self : goal.invariant_of-self
invariant_of-self c =
    let s = c.self.inside in
    let r : RegionView = record { text = arc_value s.text; store = s.store; frames = s.frames.items; choices = s.choices.items } in
    let many : c.len-count.result ≡ length s.choices.items = let e = c.len-count.ensures in omega (arith, e) in
    undone_is r c.self.invariant c.len-count.result many c.if-count-eq0.false c.undo_to.new.self c.undo_to.ensures

pub returns-in_default-match_after : goal.returns-in_default-match_after
returns-in_default-match_after c =
    let s = c.self.inside in
    let r : RegionView = record { text = arc_value s.text; store = s.store; frames = s.frames.items; choices = s.choices.items } in
    let many : c.len-count.result ≡ length s.choices.items = let e = c.len-count.ensures in omega (arith, e) in
    let trial : Trial = record { goal = c.in-Some.goal; clause = c.in-Some.clause; after = c.index-newest.result.now.after } in
    let none = subst (λ (t : TextView). HaveNoEntry t (meaning c.undo_to.new.self c.in-Some.goal) c.undo_to.new.self.now.next c.in-Some.left) c.deref.ensures c.in_default-match_after.ensures in
    subst (λ (x : RegionView). TakesClause x c.take_newest-last.new.self trial) c.self.view_is
    (none_left r c.self.invariant c.len-count.result many c.if-count-eq0.false c.undo_to.new.self c.undo_to.ensures c.index-newest.result.now c.index-newest.ensures c.in-Some.goal c.in-Some.clause c.in-Some.left c.in-Some.ensures none c.take_newest-last.new.self c.take_newest-last.result c.take_newest-last.ensures)

pub invariant_of-self-2 : goal.invariant_of-self-2
invariant_of-self-2 c =
    let s = c.self.inside in
    let r : RegionView = record { text = arc_value s.text; store = s.store; frames = s.frames.items; choices = s.choices.items } in
    let many : c.len-count.result ≡ length s.choices.items = let e = c.len-count.ensures in omega (arith, e) in
    changed_is r c.self.invariant c.len-count.result many c.if-count-eq0.false c.undo_to.new.self c.undo_to.ensures c.index-newest.result.now c.index-newest.ensures c.in-Some.goal c.in-Some.clause c.in-Some.left c.in-Some.ensures c.in-Some-match_after.clause c.match_after.new.left
    (subst (λ (t : TextView). FindsClause t (meaning c.undo_to.new.self c.in-Some.goal) c.undo_to.new.self.now.next c.in-Some.left c.match_after.new.left c.in-Some-match_after.clause) c.deref.ensures c.in-Some-match_after.ensures)
    c.index_mut.result.now c.index_mut.ensures.value

pub returns : goal.returns
returns c =
    let s = c.self.inside in
    let r : RegionView = record { text = arc_value s.text; store = s.store; frames = s.frames.items; choices = s.choices.items } in
    let many : c.len-count.result ≡ length s.choices.items = let e = c.len-count.ensures in omega (arith, e) in
    let trial : Trial = record { goal = c.in-Some.goal; clause = c.in-Some.clause; after = c.index-newest.result.now.after } in
    let newest : ChoicePoint = record { alternatives = Clauses c.in-Some.goal c.in-Some-match_after.clause c.match_after.new.left; after = c.index_mut.result.now.after; frames = c.index_mut.result.now.frames } in
    let new : RegionView = record r { store = c.undo_to.new.self; choices = slice_set s.choices.items (c.len-count.result - 1) newest } in
    subst (λ (x : RegionView). TakesClause x new trial) c.self.view_is
    (others_left r c.self.invariant c.len-count.result many c.if-count-eq0.false c.undo_to.new.self c.undo_to.ensures c.index-newest.result.now c.index-newest.ensures c.in-Some.goal c.in-Some.clause c.in-Some.left c.in-Some.ensures c.in-Some-match_after.clause c.match_after.new.left
    (subst (λ (t : TextView). FindsClause t (meaning c.undo_to.new.self c.in-Some.goal) c.undo_to.new.self.now.next c.in-Some.left c.match_after.new.left c.in-Some-match_after.clause) c.deref.ensures c.in-Some-match_after.ensures)
    c.index_mut.result.now c.index_mut.ensures.value)
