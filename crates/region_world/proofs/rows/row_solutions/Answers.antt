use Rattle.std.proofs.Common.{◌∙◌, ◌∷◌, List, [], ◌++◌, map, take, ap, ap₂, sym}
use Rattle.std.proofs.lemmas.List.{take_more, take_all, map-append}
use Rattle.op_table.specs.OperatorView.{row_meant}
use Rattle.region_split.specs.Solutions.{SolutionView}
use Rattle.region_world.specs.RowSolutions.{row_solution}
use Rattle.region_world.proofs.rows.row_solutions.Goals as goal

pub loop-row-preserved : goal.loop-row-preserved
loop-row-preserved c =
    let i = c.loop-row.row-index in
    let xs = c.args.rows.now in
    let x = c.row-item.result in
    let f = row_solution c.args.asked in
    let more = take_more xs i x c.loop-row-test.true ∙ ap (λ y. take i xs ++ y ∷ []) (sym c.row-item.is) in
    let all = ap (λ l. map f (map row_meant l)) more ∙ (ap (map f) (map-append row_meant (take i xs) (x ∷ [])) ∙ map-append f (map row_meant (take i xs)) (row_meant x ∷ [])) in
    ◌∙◌ {A = List SolutionView} c.in_ok-push.ensures.items (ap₂ (λ a b. a ++ b ∷ []) c.loop-row.invariant c.in_ok-solution_of.ensures ∙ sym all)

pub returns : goal.returns
returns c = c.new.ensures ∙ (c.loop-row.invariant ∙ ap (λ l. map (row_solution c.args.asked) (map row_meant l)) (take_all c.loop-row.row-index c.args.rows.now c.loop-row-test.false))
