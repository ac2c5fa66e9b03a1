use Rattle.std.proofs.Common.{◌≡◌, sym, subst}
use Rattle.std.specs.Str.{chars}
use Rattle.au_model.specs.Syntax.Operators.{IsOperatorTable, initial_operators}
use Rattle.op_table.specs.NameRows.{rows_of}
use Rattle.op_table.proofs.InitialTableLemmas.{initial_operators-table}
use Rattle.op_table.proofs.table.Ops.initial.Goals as goal

pub invariant_of-result : goal.invariant_of-result
unfolding chars
invariant_of-result c =
    let rows : rows_of c.in_ok-initial_names.field-0 ≡ initial_operators = c.in_ok-initial_names.ensures.rows in
    (c.in_ok-initial_names.ensures.names, subst IsOperatorTable (sym rows) initial_operators-table)

pub returns : goal.returns
unfolding chars
returns c = c.in_ok-initial_names.ensures.rows
