use Rattle.std.proofs.Common.{◌≡◌, take, drop}
use Rattle.std.specs.Option.{option_map}
use Rattle.tree_model.specs.EventViews.{place_view}
use Rattle.tree_nodes.specs.Rows.{row_of_node, alternatives_at}
use Rattle.branch_order.specs.LeftOf.{open_beside, open_index}
use Rattle.tree_nodes.specs.Fronts.{place_on}
use Rattle.branch_order.proofs.left.open_left.Given as goal

abbrev pub invariant-loop-alternative : goal.invariant-loop-alternative
invariant-loop-alternative l = open_beside l.nodes.rows (place_view l.at)
    ≡ option_map (place_on l.at.node) (open_index l.alternative (drop l.alternative (take l.at.alternative (alternatives_at (row_of_node l.nodes.rows l.at.node)))))
