use Rattle.std.proofs.Common.{[], ◌∷◌, subst, arith}
use Rattle.cell_store.specs.declared.arguments.Equations.{Equations as ArgumentEquations}
use Rattle.cell_store.specs.UnificationSteps.{SolvesFirst}
use Rattle.cell_store.proofs.RuleLemmas.{no_other_equation, other_equations}
use Rattle.cell_store.proofs.InTurnLemmas.{begins_in_turn, none_in_turn, goes_on_in_turn, all_solved_in_turn}
use Rattle.cell_store.proofs.unify.solve_arguments.Goals as goal

pub loop-open-init : goal.loop-open-init
loop-open-init c = begins_in_turn c.args.equations c.args.store.now c.args.fresh c.requires.there c.requires.older c.requires.young

pub returns-then-not-branch-clause-solved : goal.returns-then-not-branch-clause-solved
returns-then-not-branch-clause-solved c =
    let st = c.loop-open.store in
    let e : ArgumentEquations = record { left = record { at = c.loop-open.at; base = c.loop-open.base; count = c.loop-open.count }; right = record { at = c.loop-open.to; base = c.loop-open.on; count = c.loop-open.others } } in
    let r = other_equations e [] c.loop-open.invariant.there.0.left.0 in
    none_in_turn c.args.equations c.args.store.now st c.loop-open.fresh e c.loop-open.invariant r.others r.kept (subst (SolvesFirst e st c.solve_first.new.store) c.if-not-branch.true c.in_ok-solve_first.ensures.solved)

pub returns-then-count-eq1-clause-solved : goal.returns-then-count-eq1-clause-solved
returns-then-count-eq1-clause-solved c =
    let st = c.loop-open.store in
    let new = c.solve_first.new.store in
    let e : ArgumentEquations = record { left = record { at = c.loop-open.at; base = c.loop-open.base; count = c.loop-open.count }; right = record { at = c.loop-open.to; base = c.loop-open.on; count = c.loop-open.others } } in
    let none = no_other_equation e [] c.loop-open.invariant.there.0.left.0 (omega (arith, c.if-count-eq1.true)) in
    let solved = subst (SolvesFirst e st new) c.if-not-branch.false c.in_ok-solve_first.ensures.solved in
    all_solved_in_turn c.args.equations c.args.store.now new c.solve_first.new.fresh
    (goes_on_in_turn c.args.equations c.args.store.now st c.loop-open.fresh e c.loop-open.invariant [] none new c.solve_first.new.fresh solved c.in_ok-solve_first.ensures.stays)

pub loop-open-preserved : goal.loop-open-preserved
loop-open-preserved c =
    let st = c.loop-open.store in
    let new = c.solve_first.new.store in
    let e : ArgumentEquations = record { left = record { at = c.loop-open.at; base = c.loop-open.base; count = c.loop-open.count }; right = record { at = c.loop-open.to; base = c.loop-open.on; count = c.loop-open.others } } in
    let solved = subst (SolvesFirst e st new) c.if-not-branch.false c.in_ok-solve_first.ensures.solved in
    goes_on_in_turn c.args.equations c.args.store.now st c.loop-open.fresh e c.loop-open.invariant (c.rest-next.result ∷ []) (c.rest-next.ensures.kept []) new c.solve_first.new.fresh solved c.in_ok-solve_first.ensures.stays
