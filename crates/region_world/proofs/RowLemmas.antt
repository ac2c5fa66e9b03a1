-- The solutions of operators.
use Rattle.std.proofs.Common.{◌≡◌, List, [], ◌∷◌, map, refl, ap, arith}
use Rattle.au_model.specs.Syntax.Operators.{OperatorRow}
use Rattle.region_split.specs.Regions.{RegionView}
use Rattle.region_split.specs.SolutionTrials.{AreSolutionsHere}
use Rattle.region_split.specs.StackOperations.{solution_here}
use Rattle.region_world.specs.RowSolutions.{AreAskedIn, operator_unified, row_solution}
use Rattle.region_world.specs.declared.rows.Asked.{Asked}

pub rows_same : (r : RegionView) (asked : Asked) (rows : List OperatorRow) → map (solution_here r) (map (row_solution asked) rows) ≡ map (operator_unified r.store asked) rows
rows_same r asked [] = refl
rows_same r asked (row ∷ rows) = ap (λ xs. operator_unified r.store asked row ∷ xs) (rows_same r asked rows)

pub rows_here : (r : RegionView) (asked : Asked) → AreAskedIn r.store asked → (rows : List OperatorRow) → AreSolutionsHere r (map (row_solution asked) rows)
rows_here r asked there [] = tt
rows_here r asked there (row ∷ rows) = ((((there.0, omega arith), ((there.1, omega arith), ((there.2, omega arith), tt))), tt), rows_here r asked there rows)
