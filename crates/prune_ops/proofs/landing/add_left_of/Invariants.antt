use Rattle.std.proofs.Common.{◌≡◌, ◌-◌, take}
use Rattle.tree_nodes.specs.Gathering.{with_left}
use Rattle.tree_nodes.specs.Rows.{row_of_node, alternatives_at}
use Rattle.prune_ops.proofs.landing.add_left_of.Given as goal

abbrev pub invariant-loop-i : goal.invariant-loop-i
invariant-loop-i l = with_left (take (l.at.alternative - l.i) (alternatives_at (row_of_node l.nodes.rows l.at.node))) l.sum
    ≡ with_left (take l.at.alternative (alternatives_at (row_of_node l.nodes.rows l.at.node))) l.initial.sum
