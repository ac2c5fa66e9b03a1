use Rattle.std.proofs.Common.{◌∙◌, rules}
use Rattle.std.specs.Int.{w64}
use Rattle.std.proofs.lemmas.Int.{to_z-of_z}
use Rattle.arith_eval.proofs.Powers.{capped_shift}
use Rattle.arith_eval.proofs.integers.halved.Goals as goal

pub returns : goal.returns
returns c =
    to_z-of_z w64 c.unbounded_shr.result (search rules)
    ∙ capped_shift c.args.x _ c.unbounded_shr.result c.args.times c.min.result c.ranges.x (to_z-of_z w64 c.args.x c.ranges.x) c.min.ensures c.unbounded_shr.ensures
