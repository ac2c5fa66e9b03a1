use Rattle.std.proofs.Common.{◌+◌}
use Rattle.std.specs.Prelude.{IsSome}
use Rattle.tree_model.specs.EventViews.{place_view}
use Rattle.tree_nodes.specs.Rows.{cell_at}
use Rattle.branch_order.proofs.MeetingLemmas.{Meets}
use Rattle.branch_order.proofs.sides.before.Given as goal

abbrev pub invariant-loop-above : goal.invariant-loop-above
invariant-loop-above l = record {
  first : IsSome (cell_at l.nodes.rows (place_view l.first));
  second : IsSome (cell_at l.nodes.rows (place_view l.second));
  meets : Meets l.nodes (place_view l.fn.a) (place_view l.fn.b) (place_view l.first) (place_view l.second);
}

abbrev pub decreases-loop-above : goal.decreases-loop-above
decreases-loop-above l = l.first.node + l.second.node
