use Rattle.std.proofs.Common.{arith}
use Rattle.region_control.proofs.FormLemmas.{argument_there}
use Rattle.region_builtins.proofs.SolvedLemmas.{one_more, all_resolved}
use Rattle.region_builtins.proofs.solved.resolved_arguments.Goals as goal

pub argument-value-requires : goal.argument-value-requires
argument-value-requires c = argument_there c.args.store.now c.args.arguments c.requires c.loop-i.i (omega (arith, c.loop-i-test.true))

pub loop-i-preserved : goal.loop-i-preserved
loop-i-preserved c = one_more c.args.store.now c.args.arguments c.loop-i.i c.loop-i.terms.items _ _ c.argument-value.result c.loop-i.invariant c.in_ok-push.ensures.items c.in_ok-resolve.ensures c.argument-value.ensures.term

pub returns : goal.returns
returns c = all_resolved c.args.store.now c.args.arguments c.loop-i.i c.loop-i.terms.items (omega (arith, c.loop-i-test.false)) c.loop-i.invariant
