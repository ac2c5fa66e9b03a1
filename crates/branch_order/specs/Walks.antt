-- On the way up from an alternative: what is found so far of what is open to the left.
use Rattle.std.specs.Prelude.{◌≡◌, ℕ, suc, List, ◌∷◌, Option, Some, None}
use Rattle.tree_model.specs.Nodes.{Status}
use Rattle.tree_model.specs.Levels.{Level, plug, Place, place_at}
use Rattle.tree_model.specs.Orders.{levels_below, first_open}
use Rattle.tree_nodes.specs.Bodies.{Reading}
use Rattle.tree_nodes.specs.TreeTables.{NodesView, IsTableOf}
use Rattle.branch_order.specs.LeftOf.{or_else}

-- the level at this place is below the scope, and what is found counts where nothing is open further out
pub record IsAtLevel (v : Level) (up : List Level) (was : Status) (scope : Option ℕ) (b : Place) (first : Option Place) : Type 0 where
  pub level : Level
  pub above : List Level
  pub status : Status
  pub same : plug (v ∷ up) was ≡ plug (level ∷ above) status
  pub at : place_at level ≡ b
  pub below : levels_below scope (level ∷ above) ≡ level ∷ levels_below scope above
  pub found : first_open (levels_below scope (v ∷ up)) ≡ or_else (first_open (levels_below scope (level ∷ above))) first

abbrev pub IsWalked : Level → List Level → Status → Option ℕ → Option Place → Option Place → Type 0
IsWalked v up was scope (Some b) first = IsAtLevel v up was scope b first
IsWalked v up was scope None first = first_open (levels_below scope (v ∷ up)) ≡ first

abbrev pub Walks : NodesView → Place → Option ℕ → Option Place → Option Place → Type 0
Walks nodes a scope next first =
    (read : Reading) (v : Level) (up : List Level) (was : Status) → place_at v ≡ a → IsTableOf nodes read (plug (v ∷ up) was)
    → IsWalked v up was scope next first

-- numbers grow downward
abbrev pub place_height : Option Place → ℕ
place_height None = 0
place_height (Some a) = suc a.node
