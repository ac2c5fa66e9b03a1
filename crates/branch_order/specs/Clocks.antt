-- What was counted on a branch and to its left, in the table and in the tree.
use Rattle.std.specs.Prelude.{◌≡◌, ℕ, List, ◌∷◌, Option, Some, None}
use Rattle.tree_model.specs.Credits.{counted}
use Rattle.tree_model.specs.Nodes.{Status}
use Rattle.tree_model.specs.Levels.{Level, plug, Place, place_at}
use Rattle.tree_model.specs.Orders.{first_open, clock_of, answers_left}
use Rattle.tree_nodes.specs.Bodies.{Reading}
use Rattle.tree_nodes.specs.TreeTables.{NodesView, IsTableOf}

-- where all to the left has closed, these are the answers to the left of a place, and its clock
abbrev pub CountsBranch : NodesView → Place → ℕ → ℕ → Type 0
CountsBranch nodes a answers inferences =
    (read : Reading) (v : Level) (up : List Level) (was : Status) → place_at v ≡ a → IsTableOf nodes read (plug (v ∷ up) was)
    → first_open (v ∷ up) ≡ None → (answers ≡ answers_left (v ∷ up)) × (inferences ≡ clock_of (v ∷ up))

abbrev pub HasClock : NodesView → Place → ℕ → Type 0
HasClock nodes a inferences =
    (read : Reading) (v : Level) (up : List Level) (was : Status) → place_at v ≡ a → IsTableOf nodes read (plug (v ∷ up) was)
    → first_open (v ∷ up) ≡ None → inferences ≡ clock_of (v ∷ up)

-- on the way up, what is counted so far is behind what is counted from a level on
pub record IsCountedFrom (v : Level) (up : List Level) (was : Status) (b : Place) (answers inferences : ℕ) : Type 0 where
  pub level : Level
  pub above : List Level
  pub status : Status
  pub same : plug (v ∷ up) was ≡ plug (level ∷ above) status
  pub at : place_at level ≡ b
  pub shut : first_open (level ∷ above) ≡ None
  pub given : answers_left (v ∷ up) ≡ counted (answers_left (level ∷ above)) answers
  pub taken : clock_of (v ∷ up) ≡ counted (clock_of (level ∷ above)) inferences

abbrev pub IsCountedTo : Level → List Level → Status → Option Place → ℕ → ℕ → Type 0
IsCountedTo v up was (Some b) answers inferences = IsCountedFrom v up was b answers inferences
IsCountedTo v up was None answers inferences = (answers ≡ answers_left (v ∷ up)) × (inferences ≡ clock_of (v ∷ up))

abbrev pub Counts : NodesView → Place → Option Place → ℕ → ℕ → Type 0
Counts nodes a next answers inferences =
    (read : Reading) (v : Level) (up : List Level) (was : Status) → place_at v ≡ a → IsTableOf nodes read (plug (v ∷ up) was)
    → first_open (v ∷ up) ≡ None → IsCountedTo v up was next answers inferences
