use Rattle.std.proofs.Common.{◌≡◌, drop}
use Rattle.tree_nodes.specs.Rows.{row_of_node, alternatives_at}
use Rattle.tree_nodes.specs.Siblings.{counts_from}
use Rattle.branch_order.proofs.clocks.counts_of.Given as goal

abbrev pub invariant-loop-alternative : goal.invariant-loop-alternative
invariant-loop-alternative l = counts_from (0, 0) (alternatives_at (row_of_node l.nodes.rows l.node))
    ≡ counts_from (l.answers, l.inferences) (drop l.alternative (alternatives_at (row_of_node l.nodes.rows l.node)))
