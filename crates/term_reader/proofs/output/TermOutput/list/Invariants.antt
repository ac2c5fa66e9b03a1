use Rattle.term_reader.specs.OutputView.{IsOutputOf}
use Rattle.term_reader.specs.TermOutput.{TermOutput, emit_lists}
use Rattle.term_reader.proofs.output.TermOutput.list.Given as goal

abbrev pub invariant-loop-i : goal.invariant-loop-i
invariant-loop-i l = (s : TermOutput) → IsOutputOf l.fn.self s → IsOutputOf l.self (emit_lists l.i s)
