use Rattle.std.proofs.Common.{arith}
use Rattle.clause_compile.proofs.GroundPlaceLemmas.{one_more_ground, one_not_ground}
use Rattle.clause_compile.proofs.code.are_ground.Goals as goal

pub loop-argument-preserved : goal.loop-argument-preserved
loop-argument-preserved c =
    one_more_ground c.args.stack.now c.loop-argument.argument _ c.is_ground.result (let lt = c.loop-argument-test.true in let le = c.requires in omega arith) c.loop-argument.invariant c.is_ground.ensures c.if-not-is_ground.false

pub returns-then-not-is_ground : goal.returns-then-not-is_ground
returns-then-not-is_ground c = one_not_ground c.args.stack.now c.loop-argument.argument c.args.count _ c.is_ground.result c.loop-argument-test.true c.requires c.is_ground.ensures c.if-not-is_ground.true
