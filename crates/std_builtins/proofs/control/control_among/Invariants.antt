use Rattle.std.proofs.Common.{◌≡◌, drop, map}
use Rattle.std.specs.Str.{chars}
use Rattle.std_builtins.specs.Rows.{kind_in}
use Rattle.std_builtins.proofs.control.control_among.Given as goal

abbrev pub invariant-loop-row : goal.invariant-loop-row
invariant-loop-row l = kind_in (chars l.name) l.arity (map (λ row. (chars row.0.now, row.1, row.2)) l.rows) ≡ kind_in (chars l.name) l.arity (map (λ row. (chars row.0.now, row.1, row.2)) (drop l.row-index l.rows))
