use Rattle.std.proofs.Common.{◌≡◌, true, sym, subst}
use Rattle.au_model.specs.Syntax.Operators.{OperatorTable}
use Rattle.op_table.specs.OperatorView.{row_meant}
use Rattle.op_table.specs.NameRows.{rows_of}
use Rattle.op_table.specs.TableChanges.{may_be_added}
use Rattle.op_table.proofs.OperatorChangeLemmas.{either_table}
use Rattle.op_table.proofs.TableChangeLemmas.{table_with}
use Rattle.op_table.proofs.table.Ops.put.Goals as goal

pub invariant_of-self : goal.invariant_of-self
invariant_of-self c =
    let t = rows_of c.self.inside.names in
    let may = subst (λ (u : OperatorTable). may_be_added u (row_meant c.args.row) ≡ true) (sym c.self.view_is) c.requires in
    (c.change.ensures.names, either_table c.change.result (rows_of c.change.new.names) _ t c.change.ensures.ok c.change.ensures.err (table_with t (row_meant c.args.row) c.self.invariant.1 may) c.self.invariant.1)
