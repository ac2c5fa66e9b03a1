-- The records of a findall's goal side.
use Rattle.std.specs.Prelude.{◌≡◌, ℕ, List, ◌∷◌}
use Rattle.au_term.specs.Term.{Term}
use Rattle.tree_model.specs.Credits.{Credit}
use Rattle.tree_model.specs.Nodes.{Closed}
use Rattle.tree_model.specs.Levels.{Level, plug, Place, place_at}
use Rattle.tree_nodes.specs.Bodies.{Reading}
use Rattle.tree_nodes.specs.TreeTables.{NodesView, IsTableOf}

abbrev pub goal_side : ℕ → Place
goal_side n = record { node = n; index = 0 }

-- what the goal side closed with, in the order of its branches
abbrev pub IsBagOf : NodesView → ℕ → List Term → Type 0
IsBagOf nodes n bag =
    (read : Reading) (v : Level) (up : List Level) (c : Credit) → place_at v ≡ goal_side n → IsTableOf nodes read (plug (v ∷ up) (Closed c))
    → bag ≡ c.records
