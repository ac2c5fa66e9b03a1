use Rattle.std.proofs.Common.{◌≡◌, map}
use Rattle.tree_nodes.specs.Bodies.{kind_view}
use Rattle.tree_nodes.specs.RowViews.{new_cells}
use Rattle.tree_nodes.specs.Siblings.{alternative_view}
use Rattle.tree_nodes.proofs.row.first_alternatives.Given as goal

abbrev pub invariant-loop-i : goal.invariant-loop-i
invariant-loop-i l = map alternative_view l.alternatives.items ≡ new_cells (kind_view l.body.kind) 0 l.i
