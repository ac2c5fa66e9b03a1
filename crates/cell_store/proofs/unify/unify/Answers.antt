use Rattle.std.proofs.Common.{[], ◌∷◌, subst}
use Rattle.cell_store.specs.StoreView.{meaning}
use Rattle.cell_store.specs.UnificationSteps.{TakesRule}
use Rattle.cell_store.proofs.UnificationLemmas.{start_clashes}
use Rattle.cell_store.proofs.SolvingLemmas.{starts, solved, answer_handed_over}
use Rattle.cell_store.proofs.unify.unify.Goals as goal

pub returns-in-Clash-clause-unified : goal.returns-in-Clash-clause-unified
returns-in-Clash-clause-unified c =
    let st = c.args.store.now in
    start_clashes st (meaning st c.args.a) (meaning st c.args.b) (subst (TakesRule st c.first_goes.new.store (meaning st c.args.a) (meaning st c.args.b)) c.in-Clash.is c.in_ok-first_goes.ensures.goes)

pub returns-in-Solved-clause-unified : goal.returns-in-Solved-clause-unified
returns-in-Solved-clause-unified c =
    let st = c.args.store.now in
    let new = c.first_goes.new.store in
    let follows = subst (TakesRule st new (meaning st c.args.a) (meaning st c.args.b)) c.in-Solved.is c.in_ok-first_goes.ensures.goes in
    solved c.args.a c.args.b st new c.first_goes.new.fresh (starts c.args.a c.args.b st new c.args.fresh c.first_goes.new.fresh [] c.requires.older c.requires.young follows c.in_ok-first_goes.ensures.kept.others c.in_ok-first_goes.ensures.stays)

pub solve_arguments-requires-clause-older : goal.solve_arguments-requires-clause-older
solve_arguments-requires-clause-older c =
    let st = c.args.store.now in
    let new = c.first_goes.new.store in
    let follows = subst (TakesRule st new (meaning st c.args.a) (meaning st c.args.b)) c.in-Inside.is c.in_ok-first_goes.ensures.goes in
    (starts c.args.a c.args.b st new c.args.fresh c.first_goes.new.fresh (c.in-Inside.equations ∷ []) c.requires.older c.requires.young follows c.in_ok-first_goes.ensures.kept.others c.in_ok-first_goes.ensures.stays).older

pub returns-in-Inside-clause-unified : goal.returns-in-Inside-clause-unified
returns-in-Inside-clause-unified c =
    let st = c.args.store.now in
    let new = c.first_goes.new.store in
    let follows = subst (TakesRule st new (meaning st c.args.a) (meaning st c.args.b)) c.in-Inside.is c.in_ok-first_goes.ensures.goes in
    let h = starts c.args.a c.args.b st new c.args.fresh c.first_goes.new.fresh (c.in-Inside.equations ∷ []) c.requires.older c.requires.young follows c.in_ok-first_goes.ensures.kept.others c.in_ok-first_goes.ensures.stays in
    answer_handed_over c.args.a c.args.b st new c.solve_arguments.new.store c.first_goes.new.fresh (c.in-Inside.equations ∷ []) c.solve_arguments.result h c.solve_arguments.ensures.solved
