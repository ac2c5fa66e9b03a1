use Rattle.std.proofs.Common.{◌≡◌, vec_len}
use Rattle.au_term.specs.Term.{Term}
use Rattle.au_term.specs.PrefixOrder.{cells_of}
use Rattle.term_reader.specs.PostorderLevels.{IsReordering}
use Rattle.term_reader.specs.Postorder.{postorder}
use Rattle.term_reader.proofs.order.prefix_order.Given as goal

abbrev pub invariant-loop-cell : goal.invariant-loop-cell
invariant-loop-cell l = (t : Term) → l.fn.cells.items ≡ postorder t → IsReordering l.cells.items l.push_frame.items l.out.items (cells_of t)

abbrev pub decreases-loop-cell : goal.decreases-loop-cell
decreases-loop-cell l = vec_len l.cells
