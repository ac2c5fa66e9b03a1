use Rattle.std.proofs.Common.{◌≡◌, ℕ, Option, Some, subst, arith}
use Rattle.tree_model.specs.EventViews.{place_view}
use Rattle.tree_model.specs.Credits.{counted}
use Rattle.tree_model.specs.declared.places.AltRef.{AltRef}
use Rattle.tree_nodes.specs.RowViews.{parent_view}
use Rattle.branch_order.specs.Clocks.{CountsBranch, Counts}
use Rattle.branch_order.proofs.LeftLemmas.{above_there}
use Rattle.branch_order.proofs.ClockLemmas.{counts_go_on}
use Rattle.branch_order.proofs.FrontLemmas.{counts_end}
use Rattle.tree_nodes.specs.Fronts.{IsFront}
use Rattle.branch_order.proofs.clocks.counts.Goals as goal

pub returns-in-Some-at_front : goal.returns-in-Some-at_front
returns-in-Some-at_front c =
    let nodes = c.args.nodes.now in
    let a = place_view c.args.at in
    let b = place_view c.in-Some.here in
    let top = c.in-Some-at_front.top in
    let beside = c.counts_left-given.result in
    let counts = subst (λ (o : Option AltRef). Counts nodes a (parent_view o) c.loop-next.answers c.loop-next.inferences) c.in-Some.is c.loop-next.invariant.counts in
    let is = c.in-Some-at_front.ensures in
    let front : IsFront nodes (Some top) = subst (IsFront nodes) is.0 c.front-front.ensures in
    let whole = counts_end nodes a b c.loop-next.answers c.loop-next.inferences c.spent.result beside top counts c.counts_left-given.ensures c.spent.ensures front is.1 in
    let answers : counted top.answers (counted beside.0 c.loop-next.answers) ≡ c.saturating_add-in-Some-at_front.result
    = (let e = c.saturating_add-answers.ensures in let f = c.saturating_add-in-Some-at_front.ensures in omega (arith, e, f)) in
    let inferences : counted top.inferences (counted (counted beside.1 c.spent.result) c.loop-next.inferences) ≡ c.saturating_add-in-Some-at_front-2.result
    = (let e = c.saturating_add-inferences.ensures in let f = c.saturating_add.ensures in let g = c.saturating_add-in-Some-at_front-2.ensures in omega (arith, e, f, g)) in
    subst (λ (k : ℕ). CountsBranch nodes a c.saturating_add-in-Some-at_front.result k) inferences
    (subst (λ (k : ℕ). CountsBranch nodes a k (counted top.inferences (counted (counted beside.1 c.spent.result) c.loop-next.inferences))) answers whole)

pub loop-next-preserved : goal.loop-next-preserved
loop-next-preserved c =
    let nodes = c.args.nodes.now in
    let a = place_view c.args.at in
    let b = place_view c.in-Some.here in
    let beside = c.counts_left-given.result in
    let counts = subst (λ (o : Option AltRef). Counts nodes a (parent_view o) c.loop-next.answers c.loop-next.inferences) c.in-Some.is c.loop-next.invariant.counts in
    let more = counts_go_on nodes a b c.loop-next.answers c.loop-next.inferences c.spent.result (parent_view c.parent-next.result) beside counts
    c.parent-next.ensures.parent c.counts_left-given.ensures c.spent.ensures in
    let answers : counted beside.0 c.loop-next.answers ≡ c.saturating_add-answers.result = (let e = c.saturating_add-answers.ensures in omega (arith, e)) in
    let inferences : counted (counted beside.1 c.spent.result) c.loop-next.inferences ≡ c.saturating_add-inferences.result
    = (let e = c.saturating_add-inferences.ensures in let f = c.saturating_add.ensures in omega (arith, e, f)) in
    record {
      there = above_there nodes.rows (parent_view c.parent-next.result) b.node c.parent-next.ensures.above;
      counts = subst (λ (k : ℕ). Counts nodes a (parent_view c.parent-next.result) c.saturating_add-answers.result k) inferences
          (subst (λ (k : ℕ). Counts nodes a (parent_view c.parent-next.result) k (counted (counted beside.1 c.spent.result) c.loop-next.inferences)) answers more);
    }
