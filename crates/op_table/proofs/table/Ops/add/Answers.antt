use Rattle.std.proofs.Common.{◌≡◌, ◌∙◌, sym, subst, ap, fold, map, Some}
use Rattle.au_term.specs.Term.{AtomTerm}
use Rattle.au_model.specs.Syntax.Operators.{OperatorTable, IsOperatorTable}
use Rattle.au_model.specs.Syntax.OperatorChanges.{name_error}
use Rattle.op_table.specs.OperatorView.{class_meant, kind_meant}
use Rattle.op_table.specs.NameRows.{row_changed, rows_of}
use Rattle.op_table.proofs.OperatorChangeLemmas.{add_refused, add_table, either_table, rows_changed}
use Rattle.op_table.proofs.table.Ops.add.Goals as goal

pub returns-in_err-check-clause-fault : goal.returns-in_err-check-clause-fault
returns-in_err-check-clause-fault c =
    let read = c.in_ok-asked.ensures in
    add_refused c.args.self.now c.args.priority.now c.args.kind.now c.args.names.now c.in_ok-asked.asked read.0 read.1 (λ u. u ≡ u) c.check.result c.in_err-check.field-0.0 c.from_residual-in_err-check.result
    c.check.ensures c.in_err-check.was c.from_residual-in_err-check.ensures.1

pub invariant_of-self-2 : goal.invariant_of-self-2
invariant_of-self-2 c =
    let asked = c.in_ok-asked.asked in
    let read = c.in_ok-asked.ensures in
    let kind = kind_meant asked.kind in
    let t = rows_of c.self.inside.names in
    let passed : name_error t (Some kind) (map AtomTerm asked.names.items) ≡ _ = subst (λ (u : OperatorTable). name_error u (Some kind) (map AtomTerm asked.names.items) ≡ _) (sym c.self.view_is) c.in_ok-check.ensures.0 in
    let same = ap (fold (row_changed (class_meant c.class.result) c.operator.result) t) c.deref.ensures.value ∙ rows_changed (class_meant c.class.result) c.operator.result asked.priority kind t asked.names.items c.class.ensures c.operator.ensures in
    let table = add_table t c.args.priority.now c.args.kind.now c.args.names.now asked read.0 read.1 read.1.most c.self.invariant.1 passed in
    (c.change.ensures.names, either_table c.change.result (rows_of c.change.new.names) _ t c.change.ensures.ok c.change.ensures.err (subst IsOperatorTable (sym same) table) c.self.invariant.1)
