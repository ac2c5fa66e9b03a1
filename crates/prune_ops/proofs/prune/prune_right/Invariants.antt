use Rattle.tree_model.specs.EventViews.{place_view}
use Rattle.tree_nodes.specs.RowViews.{parent_view}
use Rattle.tree_nodes.specs.Puts.{IsPlaceIn}
use Rattle.tree_nodes.specs.Changes.{KeepsNumbers}
use Rattle.tree_nodes.specs.Staying.{StayMade}
use Rattle.prune_ops.specs.Prunes.{PrunesUp, level_height}
use Rattle.prune_ops.proofs.prune.prune_right.Given as goal

abbrev pub invariant-loop-next : goal.invariant-loop-next
invariant-loop-next l = record {
  there : IsPlaceIn l.nodes.rows (parent_view l.next);
  prunes : PrunesUp l.initial.nodes l.nodes (place_view l.fn.at) l.number (parent_view l.next);
  numbers : KeepsNumbers l.initial.nodes l.nodes;
  made : StayMade l.initial.nodes.rows l.nodes.rows;
}

abbrev pub decreases-loop-next : goal.decreases-loop-next
decreases-loop-next l = level_height (parent_view l.next)
