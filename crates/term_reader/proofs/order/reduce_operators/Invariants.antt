use Rattle.std.proofs.Common.{List, vec_len}
use Rattle.au_term.specs.declared.cell.Cell.{Cell}
use Rattle.term_reader.specs.PostorderLevels.{IsCompleting}
use Rattle.term_reader.proofs.order.reduce_operators.Given as goal

abbrev pub invariant-loop-pending : goal.invariant-loop-pending
invariant-loop-pending l = (cells whole : List Cell) → IsCompleting cells l.fn.waiting.items l.fn.out.items whole → IsCompleting cells l.waiting.items l.out.items whole

abbrev pub decreases-loop-pending : goal.decreases-loop-pending
decreases-loop-pending l = vec_len l.waiting
