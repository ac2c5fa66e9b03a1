use Rattle.std.proofs.Common.{◌∙◌, ap, ap₂}
use Rattle.run_model.specs.Goals.Outcomes.{CatchOf}
use Rattle.au_term.specs.Term.{term_at}
use Rattle.cell_store.specs.StoreView.{meaning}
use Rattle.region_control.specs.GoalForms.{argument_terms}
use Rattle.region_run.proofs.InferenceLemmas.{opened, argument_read}
use Rattle.region_run.proofs.openings.catch_taken.Goals as goal

pub returns-clause-comes : goal.returns-clause-comes
returns-clause-comes c =
    let r = c.args.region.now in
    let called = argument_read c.store.result.now r.store c.argument-goal.result c.args.arguments 0 c.store.ensures.store c.argument-goal.ensures.term in
    let catcher = argument_read c.store-2.result.now r.store c.argument-catcher.result c.args.arguments 1 c.store-2.ensures.store c.argument-catcher.ensures.term in
    let recovery = argument_read c.store-3.result.now r.store c.argument-recovery.result c.args.arguments 2 c.store-3.ensures.store c.argument-recovery.ensures.term in
    opened r c.catch.new.region _ _ c.args.place c.in_ok-position.position (ap₂ (λ t u. CatchOf t u (meaning r.store c.argument-recovery.result)) called catcher ∙ ap (λ w. CatchOf (term_at 0 (argument_terms r.store c.args.arguments)) (term_at 1 (argument_terms r.store c.args.arguments)) w) recovery) c.in_ok-position.ensures
