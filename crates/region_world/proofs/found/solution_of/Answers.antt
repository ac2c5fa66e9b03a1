use Rattle.std.proofs.Common.{◌≡◌, ◌∙◌, ◌++◌, ◌∷◌, List, [], sym, ap, rules}
use Rattle.region_split.specs.declared.solution.Equation.{Equation}
use Rattle.region_split.specs.declared.solution.EquationSide.TheVariants.{Value, Copied}
use Rattle.region_world.specs.FoundSolutions.{found_solution}
use Rattle.region_world.proofs.FoundLemmas.{called_solution, parts_solution}
use Rattle.region_world.proofs.found.solution_of.Goals as goal

pub returns-in_ok-goals-in-Goal : goal.returns-in_ok-goals-in-Goal
returns-in_ok-goals-in-Goal c =
    let many : c.in-Ok.variables ≡ c.vars.result = search rules in
    c.new.ensures
    ∙ (called_solution c.args.clause.now c.args.id.0 c.args.base c.from-base.result c.vars.result c.in-Ok.variables c.vars.ensures.numbered c.vars.ensures.below c.from-base.ensures many c.in_ok-shifted_head.field-0 c.in_ok-shifted_head.ensures c.in-Goal.goal c.push.new.self.items c.in_ok-goals-in-Goal.goals.items
    (c.in_ok-push-in-Goal.ensures.items ∙ ap (λ (xs : List Equation). xs ++ (let q : Equation = record { left = Value c.in-Goal.goal; right = Copied c.in_ok-shifted_head.field-0 } in q) ∷ []) c.new-equations.ensures.items) c.in_ok-goals-in-Goal.ensures
    ∙ ap (λ m. found_solution m c.args.base (record { number = c.args.id.0; clause = c.args.clause.now })) (sym c.in-Goal.is))

pub returns-in_ok-push-in-Parts-2 : goal.returns-in_ok-push-in-Parts-2
returns-in_ok-push-in-Parts-2 c =
    let many : c.in-Ok.variables ≡ c.vars.result = search rules in
    c.new-in-Parts-2.ensures
    ∙ (parts_solution c.args.clause.now c.args.id.0 c.args.base c.from-base.result c.vars.result c.in-Ok.variables c.vars.ensures.numbered c.vars.ensures.below c.from-base.ensures many c.in_ok-shifted_head.field-0 c.in_ok-shifted_head.ensures c.in-Parts.head c.in-Parts.body c.in_ok-left-in-Parts.left c.in-Parts.removes
    c.in_ok-shifted_body-in-Parts.field-0 c.push-in-Parts.new.self.items c.push-in-Parts-2.new.self.items c.new-in-Parts.result.items c.removal-removed.result c.in_ok-left-in-Parts.ensures c.in_ok-shifted_body-in-Parts.ensures
    (c.in_ok-push-in-Parts.ensures.items ∙ ap (λ (xs : List Equation). xs ++ (let q : Equation = record { left = Value c.in-Parts.head; right = Copied c.in_ok-shifted_head.field-0 } in q) ∷ []) c.new-equations.ensures.items) c.in_ok-push-in-Parts-2.ensures.items c.new-in-Parts.ensures.items c.removal-removed.ensures
    ∙ ap (λ m. found_solution m c.args.base (record { number = c.args.id.0; clause = c.args.clause.now })) (sym c.in-Parts.is))
