use Rattle.std.proofs.Common.{◌≡◌, ◌++◌, drop}
use Rattle.term_writer.specs.AnswerParts.{named_terms, line_from}
use Rattle.term_writer.proofs.lines.push_bindings.Given as goal

abbrev pub invariant-loop-i : goal.invariant-loop-i
invariant-loop-i l = l.line.items ++ line_from l.ops l.i (drop l.i (named_terms l.names l.values)) ≡ l.fn.line.items ++ line_from l.ops 0 (named_terms l.names l.values)
