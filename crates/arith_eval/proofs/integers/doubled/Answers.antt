use Rattle.std.proofs.Common.{ap, of_z}
use Rattle.std.specs.Int.{w64}
use Rattle.arith_eval.proofs.Powers.{large_shift}
use Rattle.arith_eval.proofs.integers.doubled.Goals as goal

pub returns-then-times-ge64 : goal.returns-then-times-ge64
returns-then-times-ge64 c = large_shift c.args.x c.args.times (λ e. c.if-x-eq0.false (ap (of_z w64) e)) c.if-times-ge64.true
