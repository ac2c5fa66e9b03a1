use Rattle.std.proofs.Common.{◌≡◌, take, drop}
use Rattle.tree_model.specs.EventViews.{place_view}
use Rattle.tree_nodes.specs.Rows.{row_of_node, alternatives_at}
use Rattle.tree_nodes.specs.Fronts.{counts_beside}
use Rattle.tree_nodes.specs.Siblings.{counts_from}
use Rattle.branch_order.proofs.clocks.counts_left.Given as goal

abbrev pub invariant-loop-alternative : goal.invariant-loop-alternative
invariant-loop-alternative l = counts_beside l.nodes.rows (place_view l.at)
    ≡ counts_from (l.answers, l.inferences) (drop l.alternative (take l.at.alternative (alternatives_at (row_of_node l.nodes.rows l.at.node))))
