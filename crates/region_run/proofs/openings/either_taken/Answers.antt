use Rattle.std.proofs.Common.{ap₂}
use Rattle.run_model.specs.Goals.Control.{either_form}
use Rattle.region_run.proofs.InferenceLemmas.{opened, argument_read}
use Rattle.region_run.proofs.openings.either_taken.Goals as goal

pub returns-clause-comes : goal.returns-clause-comes
returns-clause-comes c =
    let r = c.args.region.now in
    let left = argument_read c.store.result.now r.store c.argument-left.result c.args.arguments 0 c.store.ensures.store c.argument-left.ensures.term in
    let right = argument_read c.store-2.result.now r.store c.argument-right.result c.args.arguments 1 c.store-2.ensures.store c.argument-right.ensures.term in
    opened r c.disjunction.new.region _ _ c.args.place c.in_ok-position.position (ap₂ either_form left right) c.in_ok-position.ensures
