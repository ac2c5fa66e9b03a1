use Rattle.std.proofs.Common.{◌≡◌, drop}
use Rattle.std.specs.Cmp.Lexicographic.{slice_cmp}
use Rattle.term_order.specs.Cells.{cell_order}
use Rattle.term_order.proofs.comparison.compare_all.Given as goal

abbrev pub invariant-loop-at : goal.invariant-loop-at
invariant-loop-at l = slice_cmp cell_order l.left l.right ≡ slice_cmp cell_order (drop l.at l.left) (drop l.at l.right)
