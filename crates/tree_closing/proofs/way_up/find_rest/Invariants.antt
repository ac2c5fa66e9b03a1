use Rattle.std.specs.Prelude.{IsSome}
use Rattle.tree_model.specs.EventViews.{place_view}
use Rattle.tree_nodes.specs.Rows.{cell_at, credit_view}
use Rattle.tree_closing.specs.Closings.{ClosesUpTo}
use Rattle.tree_closing.proofs.way_up.find_rest.Given as goal

abbrev pub invariant-loop-end : goal.invariant-loop-end
invariant-loop-end l = record {
  there : IsSome (cell_at l.nodes.rows (place_view l.at));
  reaches : ClosesUpTo l.nodes (place_view l.fn.at) (credit_view l.fn.credit) (place_view l.at) (credit_view l.credit);
}

abbrev pub decreases-loop-end : goal.decreases-loop-end
decreases-loop-end l = l.at.node
