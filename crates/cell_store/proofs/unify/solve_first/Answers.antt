use Rattle.std.proofs.Common.{[], ◌∷◌, subst}
use Rattle.cell_store.specs.Arguments.{argument_meaning}
use Rattle.cell_store.specs.UnificationSteps.{TakesRule, equations_left}
use Rattle.cell_store.proofs.UnificationLemmas.{start_clashes}
use Rattle.cell_store.proofs.FreshLemmas.{older_follows}
use Rattle.cell_store.proofs.SolvingLemmas.{begins, first_older}
use Rattle.cell_store.proofs.InTurnLemmas.{first_followed, answer_opened}
use Rattle.cell_store.proofs.unify.solve_first.Goals as goal

pub arguments_go-requires-clause-older : goal.arguments_go-requires-clause-older
arguments_go-requires-clause-older c =
    let st = c.args.store.now in
    let e = c.args.equations in
    first_older (equations_left st (e ∷ [])) st st c.args.fresh.now e [] (begins st c.args.fresh.now (e ∷ []) c.requires.there c.requires.older c.requires.young)

pub returns-in-Clash-clause-solved : goal.returns-in-Clash-clause-solved
returns-in-Clash-clause-solved c =
    let st = c.args.store.now in
    let e = c.args.equations in
    let left = argument_meaning st e.left.base e.left.at in
    let right = argument_meaning st e.right.base e.right.at in
    start_clashes st left right (subst (TakesRule st c.arguments_go.new.store left right) c.in-Clash.is c.in_ok-arguments_go.ensures.goes)

pub returns-in-Solved-clause-solved : goal.returns-in-Solved-clause-solved
returns-in-Solved-clause-solved c =
    let st = c.args.store.now in
    let e = c.args.equations in
    let left = argument_meaning st e.left.base e.left.at in
    let right = argument_meaning st e.right.base e.right.at in
    first_followed e st c.arguments_go.new.store (subst (TakesRule st c.arguments_go.new.store left right) c.in-Solved.is c.in_ok-arguments_go.ensures.goes)

pub solve_inside-requires-clause-older : goal.solve_inside-requires-clause-older
solve_inside-requires-clause-older c =
    let st = c.args.store.now in
    let new = c.arguments_go.new.store in
    let e = c.args.equations in
    let left = argument_meaning st e.left.base e.left.at in
    let right = argument_meaning st e.right.base e.right.at in
    let follows = subst (TakesRule st new left right) c.in-Inside.is c.in_ok-arguments_go.ensures.goes in
    let older = first_older (equations_left st (e ∷ [])) st st c.args.fresh.now e [] (begins st c.args.fresh.now (e ∷ []) c.requires.there c.requires.older c.requires.young) in
    older_follows c.args.fresh.now c.arguments_go.new.fresh st new left right [] (c.in-Inside.inner ∷ []) (older, tt) c.in_ok-arguments_go.ensures.kept.others follows c.in_ok-arguments_go.ensures.stays

pub returns-in-Inside-clause-solved : goal.returns-in-Inside-clause-solved
returns-in-Inside-clause-solved c =
    let st = c.args.store.now in
    let new = c.arguments_go.new.store in
    let e = c.args.equations in
    let left = argument_meaning st e.left.base e.left.at in
    let right = argument_meaning st e.right.base e.right.at in
    let follows = subst (TakesRule st new left right) c.in-Inside.is c.in_ok-arguments_go.ensures.goes in
    answer_opened e c.in-Inside.inner st new c.solve_inside.new.store c.solve_inside.result follows c.solve_inside.ensures.solved
