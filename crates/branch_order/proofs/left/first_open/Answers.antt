use Rattle.std.proofs.Common.{◌≡◌, Option, Some, sym, ap, ◌∙◌, subst}
use Rattle.tree_model.specs.EventViews.{place_view}
use Rattle.tree_model.specs.declared.places.AltRef.{AltRef}
use Rattle.tree_model.specs.Levels.{Place}
use Rattle.tree_nodes.specs.RowViews.{parent_view}
use Rattle.tree_nodes.specs.Puts.{IsPlaceIn}
use Rattle.branch_order.specs.LeftOf.{open_beside, or_else, below_scope, IsFirstOpen}
use Rattle.branch_order.specs.Walks.{Walks}
use Rattle.branch_order.proofs.LeftLemmas.{walk_goes_on, place_below}
use Rattle.tree_nodes.specs.Fronts.{IsFront}
use Rattle.branch_order.proofs.FrontLemmas.{at_front_some, walk_end}
use Rattle.branch_order.proofs.left.first_open.Goals as goal

pub returns-then-is_some : goal.returns-then-is_some
returns-then-is_some c =
    let nodes = c.args.nodes.now in
    let a = place_view c.args.at in
    let b = place_view c.in-Some.here in
    let walks = subst (λ (o : Option AltRef). Walks nodes a c.args.scope (parent_view o) (parent_view c.loop-next.first)) c.in-Some.is c.loop-next.invariant.walks in
    let top = at_front_some c.front-front.result c.in-Some.here.node c.at_front.result c.at_front.ensures (sym c.is_some.ensures ∙ c.if-is_some.true) in
    let front : IsFront nodes (Some top.0) = subst (IsFront nodes) top.1.0 c.front-front.ensures in
    let first : parent_view c.further_left-first.result ≡ or_else (open_beside nodes.rows b) (parent_view c.loop-next.first)
    = c.further_left-first.ensures ∙ ap (λ (o : Option Place). or_else o (parent_view c.loop-next.first)) c.open_left.ensures in
    subst (IsFirstOpen nodes a c.args.scope) (sym first) (walk_end nodes a c.args.scope b (parent_view c.loop-next.first) top.0 walks front top.1.1)

pub loop-next-preserved : goal.loop-next-preserved
loop-next-preserved c =
    let nodes = c.args.nodes.now in
    let a = place_view c.args.at in
    let b = place_view c.in-Some.here in
    let walks = subst (λ (o : Option AltRef). Walks nodes a c.args.scope (parent_view o) (parent_view c.loop-next.first)) c.in-Some.is c.loop-next.invariant.walks in
    let more = walk_goes_on nodes a c.args.scope b (parent_view c.loop-next.first) (parent_view c.parent.result) walks c.parent.ensures.parent in
    let first : parent_view c.further_left-first.result ≡ or_else (open_beside nodes.rows b) (parent_view c.loop-next.first)
    = c.further_left-first.ensures ∙ ap (λ (o : Option Place). or_else o (parent_view c.loop-next.first)) c.open_left.ensures in
    record {
      there = subst (IsPlaceIn nodes.rows) (sym c.below-next-in-Some.ensures) (place_below nodes.rows c.args.scope (parent_view c.parent.result) b.node c.parent.ensures.above);
      walks = subst (λ (o : Option Place). Walks nodes a c.args.scope o (parent_view c.further_left-first.result)) (sym c.below-next-in-Some.ensures)
          (subst (λ (o : Option Place). Walks nodes a c.args.scope (below_scope c.args.scope (parent_view c.parent.result)) o) (sym first) more);
    }
