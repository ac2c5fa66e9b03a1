use Rattle.std.proofs.Common.{◌+◌, ◌*◌, ◌≤◌, length, map}
use Rattle.std.specs.Prelude.{IsSome}
use Rattle.tree_model.specs.EventViews.{place_view}
use Rattle.tree_nodes.specs.Rows.{row_of_node}
use Rattle.public_tree.specs.LostTasks.{task_view}
use Rattle.public_tree.specs.PrunedTasks.{GathersTo}
use Rattle.public_tree.proofs.pruned_tasks.gather.Given as goal

abbrev pub invariant-loop-node : goal.invariant-loop-node
invariant-loop-node l = record {
  there : IsSome (row_of_node l.nodes.rows l.next.node);
  deep : l.depth + l.left ≤ l.nodes.live;
  gathers : GathersTo l.nodes (place_view l.fn.at) l.number (map task_view l.fn.lost.items) l.next.node l.next.alternative l.depth l.left (map task_view l.lost.items);
}

-- a node that is entered has a greater number, and one to which the walk goes back a lower one
abbrev pub decreases-loop-node : goal.decreases-loop-node
decreases-loop-node l = l.left * (length l.nodes.rows + 1) + l.next.node
