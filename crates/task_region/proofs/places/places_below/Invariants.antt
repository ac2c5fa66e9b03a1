use Rattle.std.proofs.Common.{map, Some}
use Rattle.tree_model.specs.EventViews.{place_view}
use Rattle.tree_nodes.specs.RowViews.{parent_view}
use Rattle.task_region.specs.PlacesUp.{LeadsUp}
use Rattle.task_region.proofs.PlaceUpLemmas.{IsThere, number_of}
use Rattle.task_region.proofs.places.places_below.Given as goal

abbrev pub invariant-loop-next : goal.invariant-loop-next
invariant-loop-next l = record {
  leads : LeadsUp l.nodes.rows (map place_view l.places.items) (Some (place_view l.fn.at)) (parent_view l.next);
  there : IsThere l.nodes.rows (parent_view l.next);
}

abbrev pub decreases-loop-next : goal.decreases-loop-next
decreases-loop-next l = number_of (parent_view l.next)
