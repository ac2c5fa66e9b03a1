use Rattle.std.proofs.Common.{◌∙◌, arith}
use Rattle.std.specs.Int.{w64}
use Rattle.std.proofs.lemmas.Int.{ints, to_z-of_z}
use Rattle.arith_eval.proofs.Powers.{even_power, odd_power, positive_power}
use Rattle.arith_eval.proofs.integers.small_power.Goals as goal

pub returns-then-x-ge0 : goal.returns-then-x-ge0
returns-then-x-ge0 c = to_z-of_z w64 c.args.x c.ranges.x ∙ positive_power c.args.x c.args.exponent c.requires (grind (arith, ints)) c.if-exponent-eq0.false

pub returns-then-exponent-eq0-2 : goal.returns-then-exponent-eq0-2
returns-then-exponent-eq0-2 c = even_power c.args.x c.args.exponent c.requires (grind (arith, ints)) c.if-exponent-eq0-2.true

pub returns-else-exponent-eq0-2 : goal.returns-else-exponent-eq0-2
returns-else-exponent-eq0-2 c = to_z-of_z w64 c.args.x c.ranges.x ∙ odd_power c.args.x c.args.exponent c.requires (grind (arith, ints)) c.if-exponent-eq0-2.false
