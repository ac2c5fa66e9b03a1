use Rattle.std.proofs.Common.{subst}
use Rattle.effect_gate.specs.Effects.{world_meant}
use Rattle.region_world.specs.WorldGoals.{RemovesClause}
use Rattle.stack_run.proofs.StepLemmas.{clause_removed, clause_gone}
use Rattle.stack_run.proofs.world.take_removal.Goals as goal

pub returns-then-branch-clause-steps : goal.returns-then-branch-clause-steps
returns-then-branch-clause-steps c =
    let m = c.args.machine.now in
    let w1 = c.removes_clause.new.world in
    clause_removed m w1 c.args.number c.args.after (subst (RemovesClause c.args.number (world_meant m.world) (world_meant w1)) c.if-branch.true c.in_ok-removes_clause.ensures.removes)

pub returns-clause-steps : goal.returns-clause-steps
returns-clause-steps c =
    let m = c.args.machine.now in
    let w1 = c.removes_clause.new.world in
    clause_gone m w1 c.args.number c.args.after (subst (RemovesClause c.args.number (world_meant m.world) (world_meant w1)) c.if-branch.false c.in_ok-removes_clause.ensures.removes)
