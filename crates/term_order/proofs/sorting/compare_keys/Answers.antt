use Rattle.std.proofs.Common.{◌∙◌, ap₂}
use Rattle.std.specs.Cmp.Lexicographic.{slice_cmp}
use Rattle.run_model.specs.Goals.Sorting.{key_of_pair}
use Rattle.term_order.specs.Cells.{cell_order}
use Rattle.term_order.proofs.TermOrder.{order_of_cells}
use Rattle.term_order.proofs.sorting.compare_keys.Goals as goal

pub returns : goal.returns
returns c = c.compare_all.ensures ∙ (ap₂ (slice_cmp cell_order) c.key_cells.ensures c.key_cells-2.ensures ∙ order_of_cells (key_of_pair c.args.left.now) (key_of_pair c.args.right.now))
