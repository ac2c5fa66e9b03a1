use Rattle.std.proofs.Common.{◌≡◌, length, Option}
use Rattle.tree_model.specs.Nodes.{Node, Inner}
use Rattle.tree_model.specs.Levels.{Place}
use Rattle.tree_nodes.specs.Bodies.{Branching, Reading}
use Rattle.tree_nodes.specs.TreeTables.{node_number, IsNodeIn}
use Rattle.tree_nodes.specs.Drops.{drop_weight}
use Rattle.tree_nodes.specs.Staying.{StayMade}
use Rattle.tree_nodes.proofs.GoingLemmas.{IsGoing, IsOnce}
use Rattle.tree_nodes.proofs.drops.drop_node.Given as goal

abbrev pub invariant-loop-next : goal.invariant-loop-next
invariant-loop-next l = record {
  length : length l.table ≡ length l.initial.table;
  made : StayMade l.initial.table l.table;
  going : (read : Reading) (way : Branching) (parent : Option Place) (node : Node) → node_number node ≡ l.top
      → IsNodeIn l.initial.table read way parent node → IsOnce (Inner node)
      → IsGoing l.initial.table l.initial.live l.table l.live l.at (Inner node);
}

abbrev pub decreases-loop-next : goal.decreases-loop-next
decreases-loop-next l = drop_weight l.table
