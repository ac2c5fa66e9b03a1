use Rattle.std.proofs.Common.{◌∙◌, sym, ap}
use Rattle.au_model.specs.Terms.TermTypes.{is_atom}
use Rattle.au_model.specs.Syntax.OperatorChanges.{argument_error, items_in, named_items}
use Rattle.op_table.specs.Arguments.{AreItems, IsRead, list_error}
use Rattle.op_table.proofs.ArgumentLemmas.{an_atom, integer_there, list_refused, tested_on}
use Rattle.op_table.proofs.change.Change.read.Goals as goal

pub returns-in_err-proper_items : goal.returns-in_err-proper_items
returns-in_err-proper_items c =
    let p = c.args.priority.now in
    let s = c.args.specifier.now in
    let n = c.args.names.now in
    let form = named_items n in
    tested_on (list_error n form) (argument_error p s n) (AreItems (items_in form)) (IsRead p s n) c.proper_items.result c.in_err-proper_items.field-0.0 c.from_residual-in_err-proper_items.result
    (λ t h. list_refused p s n t (sym c.is_variable.ensures ∙ c.if-is_variable.false) (sym c.is_variable-else-is_variable.ensures ∙ c.if-is_variable-2.false) (sym (c.is_open.ensures form c.in_ok-form.ensures) ∙ c.if-is_open.false)
    (integer_there p c.in-Some.number (sym c.integer.ensures ∙ c.in-Some.is)) (ap is_atom (an_atom s c.atom.result c.in-Some-atom.word c.atom.ensures c.in-Some-atom.is)) h)
    (c.proper_items.ensures form c.in_ok-form.ensures) c.in_err-proper_items.was c.from_residual-in_err-proper_items.ensures.1
