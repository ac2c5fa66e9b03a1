use Rattle.std.proofs.Common.{◌≡◌, drop}
use Rattle.std.specs.Option.{option_map}
use Rattle.tree_nodes.specs.Rows.{row_of_node, alternatives_at}
use Rattle.branch_order.specs.LeftOf.{open_first, open_index}
use Rattle.tree_nodes.specs.Fronts.{place_on}
use Rattle.branch_order.proofs.order.first_of.Given as goal

abbrev pub invariant-loop-alternative : goal.invariant-loop-alternative
invariant-loop-alternative l = open_first l.nodes.rows l.node
    ≡ option_map (place_on l.node) (open_index l.alternative (drop l.alternative (alternatives_at (row_of_node l.nodes.rows l.node))))
