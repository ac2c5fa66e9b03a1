use Rattle.std.proofs.Common.{◌≡◌}
use Rattle.au_model.specs.Syntax.TextFaults.{line_after, column_after}
use Rattle.term_reader.proofs.place.line_and_column.Given as goal

abbrev pub invariant-loop-c : goal.invariant-loop-c
invariant-loop-c l = record {
  line_is : l.line ≡ line_after l.yielded;
  column_is : l.column ≡ column_after l.yielded;
}
