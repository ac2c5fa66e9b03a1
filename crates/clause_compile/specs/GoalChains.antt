-- The items of a chain of shared cells.
use Rattle.std.specs.Prelude.{List, [], ◌∷◌, Option, Some, None}
use Rattle.std.specs.Global.{Global}
use Rattle.std.specs.Arc.{arc_value}
use Rattle.std.specs.declared.sync.Arc.{Arc}
use Rattle.clause_compile.specs.declared.item.Item.{Item}
use Rattle.clause_compile.specs.declared.goal_list.GoalCell.{GoalCell, GoalCell', Held-GoalCell-rest, None', Some'}

abbrev mutual
  pub cell_items : GoalCell → List Item
  cell_items (GoalCell' item rest) = item ∷ chained_items rest

  pub chained_items : Held-GoalCell-rest → List Item
  chained_items None' = []
  chained_items (Some' p n) = cell_items n

abbrev pub chain_items : Option (Arc GoalCell Global) → List Item
chain_items None = []
chain_items (Some a) = cell_items (arc_value a)
