use Rattle.std.proofs.Common.{◌+◌}
use Rattle.std.specs.Prelude.{IsSome}
use Rattle.tree_model.specs.EventViews.{place_view}
use Rattle.tree_nodes.specs.Rows.{cell_at}
use Rattle.node_trail.proofs.TrailLemmas.{Trails}
use Rattle.node_trail.proofs.path.path_between.Given as goal

abbrev pub invariant-loop-first : goal.invariant-loop-first
invariant-loop-first l = record {
  first : IsSome (cell_at l.nodes.rows (place_view l.first));
  second : IsSome (cell_at l.nodes.rows (place_view l.second));
  trails : Trails l.nodes (place_view l.fn.from) (place_view l.fn.to) (place_view l.first) (place_view l.second) l.leave l.enter;
}

abbrev pub decreases-loop-first : goal.decreases-loop-first
decreases-loop-first l = l.first.node + l.second.node
