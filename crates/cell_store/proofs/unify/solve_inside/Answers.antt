use Rattle.std.proofs.Common.{[], ◌∷◌, refl, subst, arith}
use Rattle.cell_store.specs.Arguments.{argument_meaning}
use Rattle.cell_store.specs.declared.arguments.Equations.{Equations as ArgumentEquations}
use Rattle.cell_store.specs.UnificationSteps.{TakesRule, equations_left}
use Rattle.cell_store.proofs.FreshLemmas.{nothing_stays, stays_older}
use Rattle.cell_store.proofs.RuleLemmas.{no_other_equation}
use Rattle.cell_store.proofs.SolvingLemmas.{begins, first_older, clashes, goes_on, all_solved, answer_solved_over}
use Rattle.cell_store.proofs.unify.solve_inside.Goals as goal

pub loop-next-init : goal.loop-next-init
loop-next-init c =
    let st = c.args.store.now in
    (begins st c.args.fresh.now (c.args.equations ∷ []) c.requires.there c.requires.older c.requires.young, nothing_stays st st c.args.fresh.now refl)

pub arguments_go-requires-clause-older : goal.arguments_go-requires-clause-older
arguments_go-requires-clause-older c =
    let st = c.args.store.now in
    first_older (equations_left st (c.args.equations ∷ [])) st c.loop-next.store c.loop-next.fresh (record { left = record { at = c.loop-next.at; base = c.loop-next.base; count = c.loop-next.count }; right = record { at = c.loop-next.to; base = c.loop-next.on; count = c.loop-next.others } }) [] c.loop-next.invariant.0

pub returns-in-Clash-clause-solved : goal.returns-in-Clash-clause-solved
returns-in-Clash-clause-solved c =
    let first = c.args.store.now in
    let st = c.loop-next.store in
    let e : ArgumentEquations = record { left = record { at = c.loop-next.at; base = c.loop-next.base; count = c.loop-next.count }; right = record { at = c.loop-next.to; base = c.loop-next.on; count = c.loop-next.others } } in
    let left = argument_meaning st e.left.base e.left.at in
    let right = argument_meaning st e.right.base e.right.at in
    clashes (equations_left first (c.args.equations ∷ [])) first st c.loop-next.fresh e [] c.loop-next.invariant.0 (subst (TakesRule st c.arguments_go.new.store left right) c.in-Clash.is c.in_ok-arguments_go.ensures.goes)

pub returns-then-count-eq1-clause-solved : goal.returns-then-count-eq1-clause-solved
returns-then-count-eq1-clause-solved c =
    let first = c.args.store.now in
    let st = c.loop-next.store in
    let new = c.arguments_go.new.store in
    let e : ArgumentEquations = record { left = record { at = c.loop-next.at; base = c.loop-next.base; count = c.loop-next.count }; right = record { at = c.loop-next.to; base = c.loop-next.on; count = c.loop-next.others } } in
    let left = argument_meaning st e.left.base e.left.at in
    let right = argument_meaning st e.right.base e.right.at in
    let follows = subst (TakesRule st new left right) c.in-Solved.is c.in_ok-arguments_go.ensures.goes in
    let none = no_other_equation e [] c.loop-next.invariant.0.there.0.left.0 (omega (arith, c.if-count-eq1.true)) in
    all_solved (c.args.equations ∷ []) first new c.arguments_go.new.fresh
    (goes_on (equations_left first (c.args.equations ∷ [])) first st c.loop-next.fresh e [] c.loop-next.invariant.0 [] none new c.arguments_go.new.fresh [] follows c.in_ok-arguments_go.ensures.kept.others c.in_ok-arguments_go.ensures.stays).0

pub loop-next-smaller-in-Solved : goal.loop-next-smaller-in-Solved
loop-next-smaller-in-Solved c =
    let first = c.args.store.now in
    let st = c.loop-next.store in
    let new = c.arguments_go.new.store in
    let e : ArgumentEquations = record { left = record { at = c.loop-next.at; base = c.loop-next.base; count = c.loop-next.count }; right = record { at = c.loop-next.to; base = c.loop-next.on; count = c.loop-next.others } } in
    let left = argument_meaning st e.left.base e.left.at in
    let right = argument_meaning st e.right.base e.right.at in
    let follows = subst (TakesRule st new left right) c.in-Solved.is c.in_ok-arguments_go.ensures.goes in
    (goes_on (equations_left first (c.args.equations ∷ [])) first st c.loop-next.fresh e [] c.loop-next.invariant.0 (c.rest-next.result ∷ []) (c.rest-next.ensures.kept []) new c.arguments_go.new.fresh [] follows c.in_ok-arguments_go.ensures.kept.others c.in_ok-arguments_go.ensures.stays).1

pub loop-next-preserved-in-Solved : goal.loop-next-preserved-in-Solved
loop-next-preserved-in-Solved c =
    let first = c.args.store.now in
    let st = c.loop-next.store in
    let new = c.arguments_go.new.store in
    let e : ArgumentEquations = record { left = record { at = c.loop-next.at; base = c.loop-next.base; count = c.loop-next.count }; right = record { at = c.loop-next.to; base = c.loop-next.on; count = c.loop-next.others } } in
    let left = argument_meaning st e.left.base e.left.at in
    let right = argument_meaning st e.right.base e.right.at in
    let follows = subst (TakesRule st new left right) c.in-Solved.is c.in_ok-arguments_go.ensures.goes in (
      (goes_on (equations_left first (c.args.equations ∷ [])) first st c.loop-next.fresh e [] c.loop-next.invariant.0 (c.rest-next.result ∷ []) (c.rest-next.ensures.kept []) new c.arguments_go.new.fresh [] follows c.in_ok-arguments_go.ensures.kept.others c.in_ok-arguments_go.ensures.stays).0,
      stays_older first st new c.args.fresh.now c.loop-next.fresh c.arguments_go.new.fresh c.loop-next.invariant.1 c.in_ok-arguments_go.ensures.stays,
    )

pub solve_behind-requires-clause-there : goal.solve_behind-requires-clause-there
solve_behind-requires-clause-there c =
    let first = c.args.store.now in
    let st = c.loop-next.store in
    let new = c.arguments_go.new.store in
    let e : ArgumentEquations = record { left = record { at = c.loop-next.at; base = c.loop-next.base; count = c.loop-next.count }; right = record { at = c.loop-next.to; base = c.loop-next.on; count = c.loop-next.others } } in
    let left = argument_meaning st e.left.base e.left.at in
    let right = argument_meaning st e.right.base e.right.at in
    let follows = subst (TakesRule st new left right) c.in-Inside.is c.in_ok-arguments_go.ensures.goes in
    (goes_on (equations_left first (c.args.equations ∷ [])) first st c.loop-next.fresh e [] c.loop-next.invariant.0 (c.rest.result ∷ []) (c.rest.ensures.kept []) new c.arguments_go.new.fresh (c.in-Inside.inner ∷ []) follows c.in_ok-arguments_go.ensures.kept.others c.in_ok-arguments_go.ensures.stays).0.there

pub solve_behind-requires-clause-older : goal.solve_behind-requires-clause-older
solve_behind-requires-clause-older c =
    let first = c.args.store.now in
    let st = c.loop-next.store in
    let new = c.arguments_go.new.store in
    let e : ArgumentEquations = record { left = record { at = c.loop-next.at; base = c.loop-next.base; count = c.loop-next.count }; right = record { at = c.loop-next.to; base = c.loop-next.on; count = c.loop-next.others } } in
    let left = argument_meaning st e.left.base e.left.at in
    let right = argument_meaning st e.right.base e.right.at in
    let follows = subst (TakesRule st new left right) c.in-Inside.is c.in_ok-arguments_go.ensures.goes in
    (goes_on (equations_left first (c.args.equations ∷ [])) first st c.loop-next.fresh e [] c.loop-next.invariant.0 (c.rest.result ∷ []) (c.rest.ensures.kept []) new c.arguments_go.new.fresh (c.in-Inside.inner ∷ []) follows c.in_ok-arguments_go.ensures.kept.others c.in_ok-arguments_go.ensures.stays).0.older

pub returns-then-count-gt1-clause-solved : goal.returns-then-count-gt1-clause-solved
returns-then-count-gt1-clause-solved c =
    let first = c.args.store.now in
    let st = c.loop-next.store in
    let new = c.arguments_go.new.store in
    let e : ArgumentEquations = record { left = record { at = c.loop-next.at; base = c.loop-next.base; count = c.loop-next.count }; right = record { at = c.loop-next.to; base = c.loop-next.on; count = c.loop-next.others } } in
    let left = argument_meaning st e.left.base e.left.at in
    let right = argument_meaning st e.right.base e.right.at in
    let follows = subst (TakesRule st new left right) c.in-Inside.is c.in_ok-arguments_go.ensures.goes in
    let h = goes_on (equations_left first (c.args.equations ∷ [])) first st c.loop-next.fresh e [] c.loop-next.invariant.0 (c.rest.result ∷ []) (c.rest.ensures.kept []) new c.arguments_go.new.fresh (c.in-Inside.inner ∷ []) follows c.in_ok-arguments_go.ensures.kept.others c.in_ok-arguments_go.ensures.stays in
    answer_solved_over (c.args.equations ∷ []) first new c.solve_behind.new.self c.arguments_go.new.fresh (c.in-Inside.inner ∷ c.rest.result ∷ []) c.solve_behind.result h.0 c.solve_behind.ensures.solved

pub loop-next-smaller : goal.loop-next-smaller
loop-next-smaller c =
    let first = c.args.store.now in
    let st = c.loop-next.store in
    let new = c.arguments_go.new.store in
    let e : ArgumentEquations = record { left = record { at = c.loop-next.at; base = c.loop-next.base; count = c.loop-next.count }; right = record { at = c.loop-next.to; base = c.loop-next.on; count = c.loop-next.others } } in
    let left = argument_meaning st e.left.base e.left.at in
    let right = argument_meaning st e.right.base e.right.at in
    let follows = subst (TakesRule st new left right) c.in-Inside.is c.in_ok-arguments_go.ensures.goes in
    let none = no_other_equation e [] c.loop-next.invariant.0.there.0.left.0 (omega (arith, c.if-count-gt1.false)) in
    (goes_on (equations_left first (c.args.equations ∷ [])) first st c.loop-next.fresh e [] c.loop-next.invariant.0 [] none new c.arguments_go.new.fresh (c.in-Inside.inner ∷ []) follows c.in_ok-arguments_go.ensures.kept.others c.in_ok-arguments_go.ensures.stays).1

pub loop-next-preserved : goal.loop-next-preserved
loop-next-preserved c =
    let first = c.args.store.now in
    let st = c.loop-next.store in
    let new = c.arguments_go.new.store in
    let e : ArgumentEquations = record { left = record { at = c.loop-next.at; base = c.loop-next.base; count = c.loop-next.count }; right = record { at = c.loop-next.to; base = c.loop-next.on; count = c.loop-next.others } } in
    let left = argument_meaning st e.left.base e.left.at in
    let right = argument_meaning st e.right.base e.right.at in
    let follows = subst (TakesRule st new left right) c.in-Inside.is c.in_ok-arguments_go.ensures.goes in
    let none = no_other_equation e [] c.loop-next.invariant.0.there.0.left.0 (omega (arith, c.if-count-gt1.false)) in (
      (goes_on (equations_left first (c.args.equations ∷ [])) first st c.loop-next.fresh e [] c.loop-next.invariant.0 [] none new c.arguments_go.new.fresh (c.in-Inside.inner ∷ []) follows c.in_ok-arguments_go.ensures.kept.others c.in_ok-arguments_go.ensures.stays).0,
      stays_older first st new c.args.fresh.now c.loop-next.fresh c.arguments_go.new.fresh c.loop-next.invariant.1 c.in_ok-arguments_go.ensures.stays,
    )
