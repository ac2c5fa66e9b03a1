use Rattle.std.proofs.Common.{◌∷◌, [], ap}
use Rattle.run_model.specs.Goals.Control.{fail_goals, true_goals}
use Rattle.run_model.specs.Goals.Outcomes.{TestOf}
use Rattle.run_model.specs.Programs.Bodies.{call_of}
use Rattle.region_run.proofs.InferenceLemmas.{opened, argument_read}
use Rattle.region_run.proofs.openings.once_taken.Goals as goal

pub returns-clause-comes : goal.returns-clause-comes
returns-clause-comes c =
    let r = c.args.region.now in
    let called = argument_read c.store.result.now r.store c.argument-goal.result c.args.arguments 0 c.store.ensures.store c.argument-goal.ensures.term in
    opened r c.once.new.region _ _ c.args.place c.in_ok-position.position (ap (λ t. TestOf (call_of t ∷ []) true_goals fail_goals) called) c.in_ok-position.ensures
