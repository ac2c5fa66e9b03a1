use Rattle.std.proofs.Common.{◌≡◌, map}
use Rattle.std.specs.Map.Iter.{deref_pair}
use Rattle.op_table.specs.OperatorView.{row_meant}
use Rattle.op_table.specs.NameRows.{named_entry, table_rows}
use Rattle.op_table.proofs.table.Ops.rows.Given as goal

abbrev pub invariant-loop-name : goal.invariant-loop-name
invariant-loop-name l = map row_meant l.rows.items ≡ table_rows (map named_entry (map deref_pair l.yielded))
