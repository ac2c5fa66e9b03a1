use Rattle.tree_model.specs.EventViews.{place_view}
use Rattle.tree_nodes.specs.Changes.{KeepsNumbers}
use Rattle.tree_nodes.specs.Staying.{StayMade}
use Rattle.prune_ops.specs.Prunes.{PrunesTo}
use Rattle.prune_ops.proofs.prune.prune_level.Given as goal

abbrev pub invariant-loop-alternative : goal.invariant-loop-alternative
invariant-loop-alternative l = record {
  prunes : PrunesTo l.initial.nodes l.nodes (place_view l.at) l.alternative;
  numbers : KeepsNumbers l.initial.nodes l.nodes;
  made : StayMade l.initial.nodes.rows l.nodes.rows;
}
