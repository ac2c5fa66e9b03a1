use Rattle.std.proofs.Common.{◌+◌, ◌*◌, length}
use Rattle.std.specs.Prelude.{IsSome}
use Rattle.tree_nodes.specs.Rows.{row_of_node}
use Rattle.branch_order.specs.Sought.{test_of, IsAheadFrom}
use Rattle.branch_order.proofs.sought.leftmost_of.Given as goal

abbrev pub invariant-loop-entry : goal.invariant-loop-entry
invariant-loop-entry l = record {
  there : IsSome (row_of_node l.nodes.rows l.at.node);
  ahead : IsAheadFrom l.nodes (test_of l.sought) l.at.node l.at.alternative l.left;
}

-- a node that is entered has a greater number, and one to which the walk goes back a lower one
abbrev pub decreases-loop-entry : goal.decreases-loop-entry
decreases-loop-entry l = l.left * (length l.nodes.rows + 1) + l.at.node
