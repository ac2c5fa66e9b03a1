use Rattle.std.proofs.Common.{◌≡◌, length, map, sym, ◌∙◌, subst, arith}
use Rattle.std.specs.Arc.{arc_value}
use Rattle.au_model.specs.Terms.Each.{Each}
use Rattle.tree_model.specs.EventViews.{place_view}
use Rattle.task_region.specs.DeferredItems.{item_of, IsDeferredOver}
use Rattle.task_region.specs.PlacesUp.{AreNumbersOf, branching_at}
use Rattle.task_region.specs.TaskLoads.{IsBoundOnBranch}
use Rattle.task_region.specs.TaskStarts.{StartsTask}
use Rattle.task_region.proofs.BelowLemmas.{numbers_long}
use Rattle.task_region.proofs.BranchLoadLemmas.{all_deferred_over, loads}
use Rattle.task_region.proofs.PlaceUpLemmas.{all_fall}
use Rattle.task_region.proofs.load.load_task.Goals as goal
use Rattle.std.proofs.Common.{Some}

pub new-requires-clause-deferred : goal.new-requires-clause-deferred
new-requires-clause-deferred c =
    let rows = c.args.nodes.now.rows in
    let a = place_view c.args.at in
    let b = c.in_ok-region.ensures in
    let r = c.in_ok-region.region in
    let numbers = subst (AreNumbersOf b.places) (sym c.deref.ensures.value) b.numbers_are in
    let items = c.in_ok-deferred.ensures b.places numbers (all_fall rows b.places (Some a) b.up) in
    let floor : length b.places ≡ c.in-Ok.floor = let l = numbers_long b.places c.in_ok-region.numbers.items b.numbers_are in omega (arith, l, c.in-Ok.ensures.1, c.len.ensures) in
    subst (λ n. Each (IsDeferredOver r.store.now.next n) (map item_of c.in_ok-deferred.deferred.items)) floor
    (subst (Each (IsDeferredOver r.store.now.next (length b.places))) (sym items)
    (all_deferred_over rows a b.places r.store.now.next c.requires.loadable b.up b.bound.next))

pub returns-clause-loads : goal.returns-clause-loads
returns-clause-loads c =
    let rows = c.args.nodes.now.rows in
    let a = place_view c.args.at in
    let b = c.in_ok-region.ensures in
    let numbers = subst (AreNumbersOf b.places) (sym c.deref.ensures.value) b.numbers_are in
    let items = c.in_ok-deferred.ensures b.places numbers (all_fall rows b.places (Some a) b.up) in
    let floor : length b.places ≡ c.in-Ok.floor = let l = numbers_long b.places c.in_ok-region.numbers.items b.numbers_are in omega (arith, l, c.in-Ok.ensures.1, c.len.ensures) in
    loads c.args.nodes.now a b.places c.in_ok-region.region (map item_of c.in_ok-deferred.deferred.items) c.in_ok-task.task c.requires.loadable
    (record { leads = b.up; bound = b.bound; items_are = items })
    (subst (λ n. StartsTask c.in_ok-region.region n (map item_of c.in_ok-deferred.deferred.items) c.in_ok-task.task) (sym floor) c.in_ok-task.ensures.starts)
    (arc_value c.args.text) b.text_is

pub returns-clause-way : goal.returns-clause-way
returns-clause-way c =
    let b = c.in_ok-region.ensures in
    let starts = c.in_ok-task.ensures.starts in
    record {
      places = b.places;
      up = b.up;
      numbers_are = b.numbers_are;
      bound = subst (IsBoundOnBranch (branching_at c.args.nodes.now.rows b.places)) (sym starts.start) b.bound;
      text_is = starts.text ∙ b.text_is;
    }
