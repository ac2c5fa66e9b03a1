use Rattle.std.proofs.Common.{arith}
use Rattle.std.proofs.lemmas.Grind.{common_steps}
use Rattle.tree_nodes.proofs.NewRowLemmas.{new_cells-more, length-new_cells}
use Rattle.tree_nodes.proofs.row.first_alternatives.Goals as goal

pub loop-i-preserved : goal.loop-i-preserved
loop-i-preserved c = grind (arith, common_steps, new_cells-more)

pub returns-clause-many : goal.returns-clause-many
returns-clause-many c = grind (arith, common_steps, length-new_cells)
