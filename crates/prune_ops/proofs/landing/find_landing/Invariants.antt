use Rattle.std.specs.Prelude.{IsSome}
use Rattle.tree_model.specs.EventViews.{place_view}
use Rattle.tree_nodes.specs.Rows.{cell_at}
use Rattle.prune_ops.specs.Falls.{RisesTo}
use Rattle.prune_ops.proofs.landing.find_landing.Given as goal

abbrev pub invariant-loop-here : goal.invariant-loop-here
invariant-loop-here l = record {
  there : IsSome (cell_at l.nodes.rows (place_view l.here));
  rises : RisesTo l.nodes (place_view l.fn.at) l.number (place_view l.here) l.sum;
}

abbrev pub decreases-loop-here : goal.decreases-loop-here
decreases-loop-here l = l.here.node
