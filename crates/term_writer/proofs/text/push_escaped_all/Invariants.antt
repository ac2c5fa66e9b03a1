use Rattle.std.proofs.Common.{◌≡◌, ◌++◌}
use Rattle.au_model.specs.Writing.NameForms.{escaped_all}
use Rattle.term_writer.proofs.text.push_escaped_all.Given as goal

abbrev pub invariant-loop-c : goal.invariant-loop-c
invariant-loop-c l = l.bytes.items ≡ l.fn.bytes.items ++ escaped_all l.yielded
