use Rattle.tree_model.specs.EventViews.{place_view}
use Rattle.tree_nodes.specs.RowViews.{parent_view}
use Rattle.tree_nodes.specs.Puts.{IsPlaceIn}
use Rattle.branch_order.specs.Clocks.{Counts}
use Rattle.branch_order.specs.Walks.{place_height}
use Rattle.branch_order.proofs.clocks.counts.Given as goal

abbrev pub invariant-loop-next : goal.invariant-loop-next
invariant-loop-next l = record {
  there : IsPlaceIn l.nodes.rows (parent_view l.next);
  counts : Counts l.nodes (place_view l.fn.at) (parent_view l.next) l.answers l.inferences;
}

abbrev pub decreases-loop-next : goal.decreases-loop-next
decreases-loop-next l = place_height (parent_view l.next)
