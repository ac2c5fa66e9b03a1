use Rattle.tree_model.specs.EventViews.{place_view}
use Rattle.tree_nodes.specs.RowViews.{parent_view}
use Rattle.tree_nodes.specs.Puts.{IsPlaceIn}
use Rattle.branch_order.specs.Walks.{Walks, place_height}
use Rattle.branch_order.proofs.left.first_open.Given as goal

abbrev pub invariant-loop-next : goal.invariant-loop-next
invariant-loop-next l = record {
  there : IsPlaceIn l.nodes.rows (parent_view l.next);
  walks : Walks l.nodes (place_view l.fn.at) l.scope (parent_view l.next) (parent_view l.first);
}

abbrev pub decreases-loop-next : goal.decreases-loop-next
decreases-loop-next l = place_height (parent_view l.next)
