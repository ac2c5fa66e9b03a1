use Rattle.region_capture.proofs.LevelLemmas.{forgets_more}
use Rattle.region_capture.proofs.levels.forget.Goals as goal

pub loop-variable-preserved : goal.loop-variable-preserved
loop-variable-preserved c =
    forgets_more c.args.variables.now c.loop-variable.variable-index c.loop-variable-test.true c.args.seen.now c.loop-variable.seen c.forget.new.self
    c.loop-variable.invariant c.forget.ensures
