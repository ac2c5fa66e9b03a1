-- How pruning changes the tree.
use Rattle.std.specs.Prelude.{◌≡◌, ℕ, suc, ◌==◌, Bool, true, false, List, ◌∷◌, length, Option, Some, None}
use Rattle.tree_model.specs.Nodes.{Numbered, Alternatives, Status, Inner}
use Rattle.tree_model.specs.Levels.{Level, put_left, plug, Place, place_at}
use Rattle.tree_model.specs.Pruning.{emptied, pruned}
use Rattle.tree_nodes.specs.Bodies.{Reading}
use Rattle.tree_nodes.specs.TreeTables.{NodesView, IsTableOf}

-- on the levels strictly below the scope all to the right of a place has closed with the empty credit, and what stood
-- there is gone
abbrev pub PrunesRight : NodesView → NodesView → Place → ℕ → Type 0
PrunesRight old new a scope =
    (read : Reading) (v : Level) (up : List Level) (was : Status) → place_at v ≡ a → IsTableOf old read (plug (v ∷ up) was)
    → IsTableOf new read (plug (pruned scope (v ∷ up)) was)

-- the same at one node
abbrev pub PrunesLevel : NodesView → NodesView → Place → Type 0
PrunesLevel old new a =
    (read : Reading) (v : Level) (up : List Level) (was : Status) → place_at v ≡ a → IsTableOf old read (plug (v ∷ up) was)
    → IsTableOf new read (plug (record v { right = emptied v.right } ∷ up) was)

-- so many alternatives of the node have been passed
pub record IsPruningAt (nodes : NodesView) (read : Reading) (v : Level) (up : List Level) (was : Status) (j : ℕ) : Type 0 where
  pub left : List (ℕ × Status)
  pub rest : Alternatives
  pub stands : IsTableOf nodes read (plug up (Inner (Numbered v.number v.kind (put_left left rest))))
  pub passed : length left ≡ j
  pub same : put_left left (emptied rest) ≡ put_left ((v.spent, was) ∷ v.left) (emptied v.right)

abbrev pub PrunesTo : NodesView → NodesView → Place → ℕ → Type 0
PrunesTo old new a j =
    (read : Reading) (v : Level) (up : List Level) (was : Status) → place_at v ≡ a → IsTableOf old read (plug (v ∷ up) was)
    → IsPruningAt new read v up was j

-- the levels below this place have been pruned
pub record IsPrunedTo (nodes : NodesView) (read : Reading) (v : Level) (up : List Level) (was : Status) (scope : ℕ) (b : Place) : Type 0 where
  pub level : Level
  pub above : List Level
  pub status : Status
  pub stands : IsTableOf nodes read (plug (level ∷ above) status)
  pub at : place_at level ≡ b
  pub below : (level.number == scope) ≡ false
  pub same : plug (pruned scope (v ∷ up)) was ≡ plug (pruned scope (level ∷ above)) status

abbrev pub IsPrunedUp : NodesView → Reading → Level → List Level → Status → ℕ → Option Place → Type 0
IsPrunedUp nodes read v up was scope (Some b) = IsPrunedTo nodes read v up was scope b
IsPrunedUp nodes read v up was scope None = IsTableOf nodes read (plug (pruned scope (v ∷ up)) was)

abbrev pub PrunesUp : NodesView → NodesView → Place → ℕ → Option Place → Type 0
PrunesUp old new a scope next =
    (read : Reading) (v : Level) (up : List Level) (was : Status) → place_at v ≡ a → IsTableOf old read (plug (v ∷ up) was)
    → IsPrunedUp new read v up was scope next

abbrev pub if_within : Bool → Place → Option Place
if_within true a = None
if_within false a = Some a

-- a place, where its node is not the scope
abbrev pub within_scope : ℕ → Option Place → Option Place
within_scope scope None = None
within_scope scope (Some a) = if_within (a.node == scope) a

-- numbers grow downward
abbrev pub level_height : Option Place → ℕ
level_height None = 0
level_height (Some a) = suc a.node
