use Rattle.std.proofs.Common.{arith}
use Rattle.cell_store.specs.Arguments.{is_in_any}
use Rattle.cell_store.proofs.WalkLemmas.{past_first}
use Rattle.cell_store.proofs.occurs.look_along.Goals as goal

pub loop-at-preserved : goal.loop-at-preserved
loop-at-preserved c =
    let st = c.args.store.now in
    let h = past_first st c.args.variable c.args.arguments.base c.loop-at.count c.loop-at.at (is_in_any st c.args.variable c.args.arguments) (omega (arith, c.loop-at.invariant.1.0, c.if-count-eq1.false)) c.in-Past.ensures.searched c.loop-at.invariant.0 c.loop-at.invariant.1.1 in
    (h.0, (h.1, h.2))
