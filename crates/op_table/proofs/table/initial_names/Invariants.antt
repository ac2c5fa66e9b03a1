use Rattle.std.proofs.Common.{◌≡◌, [], fold, map, take}
use Rattle.au_model.specs.Syntax.Operators.{with_operator}
use Rattle.op_table.specs.NameRows.{IsNames, rows_of}
use Rattle.op_table.specs.TableRows.{stored_row}
use Rattle.op_table.proofs.table.initial_names.Given as goal

abbrev pub invariant-loop-name : goal.invariant-loop-name
invariant-loop-name l = record {
  names : IsNames l.names;
  rows : rows_of l.names ≡ fold with_operator [] (map stored_row (take l.name-index l.entries));
}
