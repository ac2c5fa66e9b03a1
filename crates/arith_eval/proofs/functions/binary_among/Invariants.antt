use Rattle.std.proofs.Common.{◌≡◌, drop, map}
use Rattle.std.specs.Str.{chars}
use Rattle.arith_eval.specs.Functions.{named_in}
use Rattle.arith_eval.proofs.functions.binary_among.Given as goal

abbrev pub invariant-loop-row : goal.invariant-loop-row
invariant-loop-row l = named_in (chars l.name) (map (λ row. (chars row.0.now, row.1)) l.rows) ≡ named_in (chars l.name) (map (λ row. (chars row.0.now, row.1)) (drop l.row-index l.rows))
