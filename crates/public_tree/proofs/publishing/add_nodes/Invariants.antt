use Rattle.std.proofs.Common.{take}
use Rattle.tree_model.specs.EventViews.{place_view}
use Rattle.tree_nodes.specs.Staying.{StayMade}
use Rattle.public_tree.specs.Publishing.{bodies_view, IsReadyAt}
use Rattle.public_tree.proofs.AddedLemmas.{GoesOn}
use Rattle.public_tree.proofs.publishing.add_nodes.Given as goal

abbrev pub invariant-loop-body : goal.invariant-loop-body
invariant-loop-body l = record {
  ready : IsReadyAt l.nodes.rows (place_view l.at);
  more : GoesOn l.initial.nodes l.nodes (place_view l.initial.at) (place_view l.at) (bodies_view (take l.body-index l.bodies));
  made : StayMade l.initial.nodes.rows l.nodes.rows;
}
