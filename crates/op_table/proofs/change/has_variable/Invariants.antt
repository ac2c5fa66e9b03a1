use Rattle.std.proofs.Common.{◌≡◌, drop}
use Rattle.std.specs.List.{list_any}
use Rattle.au_model.specs.Terms.TermTypes.{is_variable}
use Rattle.op_table.proofs.change.has_variable.Given as goal

abbrev pub invariant-loop-item : goal.invariant-loop-item
invariant-loop-item l = list_any is_variable l.items ≡ list_any is_variable (drop l.item-index l.items)
