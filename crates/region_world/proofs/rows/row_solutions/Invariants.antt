use Rattle.std.proofs.Common.{◌≡◌, map, take}
use Rattle.op_table.specs.OperatorView.{row_meant}
use Rattle.region_world.specs.RowSolutions.{row_solution}
use Rattle.region_world.proofs.rows.row_solutions.Given as goal

abbrev pub invariant-loop-row : goal.invariant-loop-row
invariant-loop-row l = l.solutions.items ≡ map (row_solution l.asked) (map row_meant (take l.row-index l.rows))
