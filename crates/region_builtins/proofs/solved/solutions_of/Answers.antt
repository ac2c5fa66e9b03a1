use Rattle.std.proofs.Common.{◌∙◌, ◌∷◌, [], ◌++◌, map, take, ap, ap₂, sym}
use Rattle.std.proofs.lemmas.List.{take_more, take_all, map-append}
use Rattle.std_builtins.specs.Answers.{solution_meant}
use Rattle.region_builtins.specs.CopiedSolutions.{copied_solution}
use Rattle.region_builtins.proofs.solved.solutions_of.Goals as goal

pub loop-solution-preserved : goal.loop-solution-preserved
loop-solution-preserved c =
    let i = c.loop-solution.solution-index in
    let xs = c.args.found.now in
    let x = c.solution-item.result in
    let more = take_more xs i x c.loop-solution-test.true ∙ ap (λ y. take i xs ++ y ∷ []) (sym c.solution-item.is) in
    let all = ap (λ l. map copied_solution (map solution_meant l)) more ∙ (ap (map copied_solution) (map-append solution_meant (take i xs) (x ∷ [])) ∙ map-append copied_solution (map solution_meant (take i xs)) (solution_meant x ∷ [])) in
    c.in_ok-push.ensures.items ∙ (ap₂ (λ a b. a ++ b ∷ []) c.loop-solution.invariant c.in_ok-solution_of.ensures ∙ sym all)

pub returns : goal.returns
returns c = c.new.ensures ∙ (c.loop-solution.invariant ∙ ap (λ l. map copied_solution (map solution_meant l)) (take_all c.loop-solution.solution-index c.args.found.now c.loop-solution-test.false))
