-- The rows that the program's table stands for.
use Rattle.std.specs.Prelude.{ℕ, List, chars}
use Rattle.std.specs.Borrow.{Bor}
use Rattle.au_model.specs.Syntax.Operators.{OperatorRow}
use Rattle.op_table.specs.OperatorView.{kind_meant}
use Rattle.op_table.specs.declared.operator.OpKind.{OpKind}

abbrev pub stored_row : Bor (List ℕ) × ℕ × OpKind → OperatorRow
stored_row e = record { name = chars e.0.now; operator = record { priority = e.1; kind = kind_meant e.2 } }
