-- What the alternatives of a tree read as whose entries are numbered.
use Rattle.std.specs.Prelude.{◌≡◌, ◌⊎◌, true, List, [], ◌∷◌, Option}
use Rattle.au_term.specs.Term.{Term}
use Rattle.run_model.specs.Machine.Entries.{Entry}
use Rattle.run_model.specs.Programs.Jobs.{Job}
use Rattle.clause_compile.specs.declared.item.Item.TheVariants.{End}
use Rattle.tree_model.specs.Levels.{Level, plug}
use Rattle.tree_model.specs.Nodes.{Hold, Status, Pending}
use Rattle.tree_model.specs.NumberedTrees.{IsNumberedStatus}
use Rattle.tree_nodes.specs.Bodies.{Branching}
use Rattle.tree_nodes.specs.TreeTables.{NodesView, IsTableOf, IsWayTo}
use Rattle.branch_reading.specs.SettledWays.{items_on, is_way_settled}
use Rattle.branch_reading.specs.Readings.{reading}

-- what is left to do on a branch is the end of a query alone
abbrev pub IsEndOn : Branching → Type 0
IsEndOn way = (ball : Option Term) × (items_on way ≡ End ball ∷ [])

-- an entry is what a branch reads as, which is settled or ends a query
pub record IsSettledReading (job : Job) (way : Branching) (entry : Entry) : Type 0 where
  pub reads : entry ≡ reading job way
  pub settled : (is_way_settled way ≡ true) ⊎ IsEndOn way

abbrev pub NumberedTreesAreSettled : Type 0
NumberedTreesAreSettled =
    (job : Job) (nodes : NodesView) (root : Status) → IsTableOf nodes (reading job) root → IsNumberedStatus root
    → (v : Level) (up : List Level) (hold : Hold) (entry : Entry) → plug (v ∷ up) (Pending hold entry) ≡ root
    → (way : Branching) → IsWayTo nodes.rows (v ∷ up) way → IsSettledReading job way entry
