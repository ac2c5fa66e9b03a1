use Rattle.std.proofs.Common.{◌≡◌, true, [], ◌∷◌, ◌++◌, map, Some, sym, ap, ◌∙◌, subst}
use Rattle.std.proofs.lemmas.List.{map-append}
use Rattle.std.specs.Prelude.{is_some}
use Rattle.tree_model.specs.EventViews.{place_view}
use Rattle.tree_nodes.specs.RowViews.{parent_view}
use Rattle.tree_nodes.specs.Rows.{row_of_node}
use Rattle.task_region.specs.PlacesUp.{LeadsUp}
use Rattle.task_region.proofs.PlaceUpLemmas.{IsThere, above_there, leads_further, step_up}
use Rattle.task_region.proofs.places.places_below.Goals as goal

pub loop-next-preserved : goal.loop-next-preserved
loop-next-preserved c =
    let rows = c.args.nodes.now.rows in
    let place = place_view c.in-Some.place in
    let before = map place_view c.loop-next.places.items in
    let above = parent_view c.parent-next.result in
    let was : parent_view c.loop-next.next ≡ Some place = ap parent_view c.in-Some.is in
    let there : is_some (row_of_node rows place.node) ≡ true = subst (IsThere rows) was c.loop-next.invariant.there in
    let items : map place_view c.push.new.self.items ≡ before ++ place ∷ []
    = ap (map place_view) c.in_ok-push.ensures.items ∙ map-append place_view c.loop-next.places.items (c.in-Some.place ∷ []) in
    record {
      leads = subst (λ ps. LeadsUp rows ps (Some (place_view c.args.at)) above) (sym items)
          (leads_further rows before place (Some (place_view c.args.at)) (parent_view c.loop-next.next) above c.loop-next.invariant.leads was
          (step_up rows place above there c.parent-next.ensures.parent c.parent-next.ensures.above));
      there = above_there rows above place.node c.parent-next.ensures.above;
    }
