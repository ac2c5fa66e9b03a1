-- A private run that has come to entries in groups, for which bodies stand.
use Rattle.std.specs.Prelude.{◌≡◌, ℕ, List, ◌∷◌, length, Some}
use Rattle.run_model.specs.Machine.Entries.{Entry}
use Rattle.tree_model.specs.Legality.{taken_at, run_of}
use Rattle.tree_model.specs.Levels.{Place, Spot, levels_of}
use Rattle.tree_model.specs.TreeStates.{TreeState}
use Rattle.tree_nodes.specs.Bodies.{Body, Branching, Reading}
use Rattle.tree_nodes.specs.Rows.{Rows}
use Rattle.tree_nodes.specs.TreeTables.{IsWayTo}
use Rattle.public_tree.specs.Publishing.{RunReadsAs, body_sizes}
use Rattle.branch_shapes.specs.Groups.{Groups, stacked, node_sizes}
use Rattle.branch_shapes.specs.GroupLaws.{CanBeNodes}
use Rattle.branch_shapes.specs.GroupBodies.{ReadAsRun}

-- after so many inferences
pub record RunsToGroups (rows : Rows) (bodies : List Body) (k : ℕ) (read : Reading) (t : TreeState) (s : Spot) : Type 0 where
  pub current : Entry
  pub groups : Groups
  pub run : run_of t s k ≡ Some (current ∷ stacked groups)
  pub nodes : CanBeNodes (length (levels_of s)) current groups
  pub sized : body_sizes bodies ≡ node_sizes groups
  pub reads : (way : Branching) → IsWayTo rows (levels_of s) way → ReadAsRun read way t.next (levels_of s) bodies current groups

-- these bodies can be published
abbrev pub GroupedRunsRead : Type 0
GroupedRunsRead = (rows : Rows) (bodies : List Body) (w : ℕ) (a : Place) (k : ℕ) (read : Reading) (t : TreeState)
    → ((s : Spot) → taken_at w a t ≡ Some s → RunsToGroups rows bodies k read t s) → RunReadsAs rows bodies w a k read t
