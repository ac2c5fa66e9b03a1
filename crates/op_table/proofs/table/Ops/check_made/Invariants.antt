use Rattle.std.proofs.Common.{◌≡◌, map, drop}
use Rattle.au_term.specs.Term.{AtomTerm}
use Rattle.op_table.specs.OperatorView.{kind_meant}
use Rattle.op_table.specs.Arguments.{making_error}
use Rattle.op_table.proofs.table.Ops.check_made.Given as goal

abbrev pub invariant-loop-name : goal.invariant-loop-name
invariant-loop-name l = making_error l.self (kind_meant l.kind) (map AtomTerm l.names) ≡ making_error l.self (kind_meant l.kind) (drop l.name-index (map AtomTerm l.names))
