use Rattle.std.proofs.Common.{◌≡◌, take}
use Rattle.au_model.specs.Terms.Each.{Each}
use Rattle.op_table.specs.NameRows.{HasName, IsNames, rows_of}
use Rattle.op_table.proofs.names.make_places.Given as goal

abbrev pub invariant-loop-name : goal.invariant-loop-name
invariant-loop-name l = record {
  names : IsNames l.names;
  rows : rows_of l.names ≡ rows_of l.fn.names;
  there : Each (HasName l.names) (take l.name-index l.wanted);
}
