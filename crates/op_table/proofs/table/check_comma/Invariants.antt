use Rattle.std.proofs.Common.{◌≡◌, map, drop}
use Rattle.au_term.specs.Term.{AtomTerm}
use Rattle.op_table.specs.Arguments.{comma_error}
use Rattle.op_table.proofs.table.check_comma.Given as goal

abbrev pub invariant-loop-name : goal.invariant-loop-name
invariant-loop-name l = comma_error (map AtomTerm l.names) ≡ comma_error (drop l.name-index (map AtomTerm l.names))
