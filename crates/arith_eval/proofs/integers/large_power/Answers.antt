use Rattle.arith_eval.proofs.Powers.{large_power}
use Rattle.arith_eval.proofs.integers.large_power.Goals as goal

pub returns-then-exponent-ge64 : goal.returns-then-exponent-ge64
returns-then-exponent-ge64 c = large_power c.args.x c.args.exponent c.requires c.if-exponent-ge64.true
