use Rattle.std.proofs.Common.{◌≡◌, fold, take}
use Rattle.std.specs.Prelude.{IsSome}
use Rattle.au_model.specs.Terms.Each.{Each}
use Rattle.op_table.specs.OperatorView.{class_meant}
use Rattle.op_table.specs.NameRows.{HasName, IsNames, row_changed, rows_of}
use Rattle.op_table.proofs.names.set_all.Given as goal

abbrev pub invariant-loop-name : goal.invariant-loop-name
invariant-loop-name l = record {
  names : IsNames l.names;
  rows : rows_of l.names ≡ fold (row_changed (class_meant l.class) l.operator) (rows_of l.fn.names) (take l.name-index l.changed);
  there : IsSome l.operator → Each (HasName l.names) l.changed;
}
