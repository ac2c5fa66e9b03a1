use Rattle.std.proofs.Common.{◌∙◌, ap₂}
use Rattle.std.specs.Cmp.Lexicographic.{slice_cmp}
use Rattle.term_order.specs.Cells.{cell_order}
use Rattle.term_order.proofs.TermOrder.{order_of_cells}
use Rattle.term_order.proofs.comparison.compare.Goals as goal

pub returns : goal.returns
returns c = c.compare_all.ensures ∙ (ap₂ (slice_cmp cell_order) c.cells.ensures.cells c.cells-2.ensures.cells ∙ order_of_cells c.args.left.now c.args.right.now)
