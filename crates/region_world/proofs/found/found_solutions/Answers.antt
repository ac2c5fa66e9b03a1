use Rattle.std.proofs.Common.{◌∙◌, ◌∷◌, List, [], ◌++◌, map, take, ap, ap₂, sym}
use Rattle.std.proofs.lemmas.List.{take_more, take_all, map-append}
use Rattle.run_model.specs.Programs.Clauses.{Clause}
use Rattle.clause_compile.specs.CompiledClauses.{shown}
use Rattle.region_split.specs.Solutions.{SolutionView}
use Rattle.region_world.specs.FoundSolutions.{found_solution}
use Rattle.region_world.proofs.found.found_solutions.Goals as goal

pub loop-found-preserved : goal.loop-found-preserved
loop-found-preserved c =
    let i = c.loop-found.found-index in
    let xs = c.args.found.now in
    let x = c.found-item.result in
    let f = found_solution c.args.matching.now c.args.base in
    let more = take_more xs i x c.loop-found-test.true ∙ ap (λ y. take i xs ++ y ∷ []) (sym c.found-item.is) in
    let all = ap (λ l. map f (map shown l)) more ∙ (ap (map f) (map-append shown (take i xs) (x ∷ [])) ∙ map-append f (map shown (take i xs)) (shown x ∷ [])) in
    ◌∙◌ {A = List SolutionView} c.in_ok-push.ensures.items (ap₂ (λ a b. a ++ b ∷ []) c.loop-found.invariant (c.in_ok-solution_of.ensures ∙ ap (λ (t : Clause). f (record { number = x.0.0; clause = t })) c.deref.ensures) ∙ sym all)

pub returns : goal.returns
returns c = c.new.ensures ∙ (c.loop-found.invariant ∙ ap (λ l. map (found_solution c.args.matching.now c.args.base) (map shown l)) (take_all c.loop-found.found-index c.args.found.now c.loop-found-test.false))
