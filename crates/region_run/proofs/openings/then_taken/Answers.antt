use Rattle.std.proofs.Common.{ap₂}
use Rattle.run_model.specs.Goals.Control.{fail_goals}
use Rattle.run_model.specs.Goals.Outcomes.{TestOf}
use Rattle.run_model.specs.Programs.Bodies.{goals_of}
use Rattle.region_run.proofs.InferenceLemmas.{opened, argument_read}
use Rattle.region_run.proofs.openings.then_taken.Goals as goal

pub returns-clause-comes : goal.returns-clause-comes
returns-clause-comes c =
    let r = c.args.region.now in
    let condition = argument_read c.store.result.now r.store c.argument-condition.result c.args.arguments 0 c.store.ensures.store c.argument-condition.ensures.term in
    let then = argument_read c.store-2.result.now r.store c.argument-then.result c.args.arguments 1 c.store-2.ensures.store c.argument-then.ensures.term in
    opened r c.if_then.new.region _ _ c.args.place c.in_ok-position.position (ap₂ (λ t u. TestOf (goals_of t) (goals_of u) fail_goals) condition then) c.in_ok-position.ensures
