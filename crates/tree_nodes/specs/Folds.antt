-- Where an alternative that closes folds to.
use Rattle.std.specs.Prelude.{◌≡◌, ◌≢◌, ℕ, ◌<◌, List, [], ◌∷◌, Option, Some, None, IsSome}
use Rattle.tree_model.specs.Credits.{Credit}
use Rattle.tree_model.specs.Nodes.{Status}
use Rattle.tree_model.specs.Levels.{Level, plug, Place, place_at}
use Rattle.tree_nodes.specs.Bodies.{Reading}
use Rattle.tree_nodes.specs.Rows.{ClosedCell, Rows, row_of_node, cell_at}
use Rattle.tree_nodes.specs.TreeTables.{NodesView, IsTableOf}
use Rattle.tree_nodes.specs.Changes.{folded_up}

-- on the way up, at this place and with this credit, the same is left to fold
pub record IsFoldedTo (v : Level) (up : List Level) (was : Status) (c : Credit) (b : Place) (total : Credit) : Type 0 where
  pub level : Level
  pub above : List Level
  pub status : Status
  pub same : plug (v ∷ up) was ≡ plug (level ∷ above) status
  pub at : place_at level ≡ b
  pub folds : folded_up (v ∷ up) c ≡ folded_up (level ∷ above) total

abbrev pub FoldsTo : NodesView → Place → Credit → Place → Credit → Type 0
FoldsTo nodes a c b total =
    (read : Reading) (v : Level) (up : List Level) (was : Status) → place_at v ≡ a → IsTableOf nodes read (plug (v ∷ up) was)
    → IsFoldedTo v up was c b total

-- and no more is left
abbrev pub FoldsUpTo : NodesView → Place → Credit → Place → Credit → Type 0
FoldsUpTo nodes a c b total =
    (read : Reading) (v : Level) (up : List Level) (was : Status) → place_at v ≡ a → IsTableOf nodes read (plug (v ∷ up) was)
    → (f : IsFoldedTo v up was c b total) × (folded_up (f.level ∷ f.above) total ≡ record { levels = f.level ∷ f.above; credit = total })

-- the credit with which it has closed, once all has folded that does, has records: its own, or those of what folds with it
abbrev pub ClosesWithRecords : NodesView → Place → Credit → Type 0
ClosesWithRecords nodes a c =
    (read : Reading) (v : Level) (up : List Level) (was : Status) → place_at v ≡ a → IsTableOf nodes read (plug (v ∷ up) was)
    → (folded_up (v ∷ up) c).credit.records ≢ []

-- no alternative of the table has closed with records
abbrev pub AreWithoutRecords : Rows → Type 0
AreWithoutRecords rows = (a : Place) (spent : ℕ) (credit : Credit) → cell_at rows a ≡ Some (spent, ClosedCell credit) → credit.records ≡ []

-- the alternative that a node is below is there, and its node's number is lower
abbrev pub IsAbove : Rows → Option Place → ℕ → Type 0
IsAbove rows None n = Unit {0}
IsAbove rows (Some a) n = IsSome (cell_at rows a) × (a.node < n)

-- a node below an alternative is there, and its number is greater
abbrev pub IsDeeper : Rows → ℕ → Option ℕ → Type 0
IsDeeper rows n None = Unit {0}
IsDeeper rows n (Some m) = IsSome (row_of_node rows m) × (n < m)
