use Rattle.std.proofs.Common.{◌≡◌, length}
use Rattle.term_reader.specs.OutputView.{IsOutputOf}
use Rattle.term_reader.specs.TermOutput.{TermOutput, emit_chars}
use Rattle.term_reader.proofs.output.TermOutput.each_char.Given as goal

abbrev pub invariant-loop-c : goal.invariant-loop-c
invariant-loop-c l = (l.items ≡ length l.yielded) × ((s : TermOutput) → IsOutputOf l.fn.self s → IsOutputOf l.self (emit_chars s l.yielded))
