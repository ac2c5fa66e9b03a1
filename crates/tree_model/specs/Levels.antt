-- A place in the tree, by the levels above it.
use Rattle.std.specs.Prelude.{ℕ, ◌==◌, ◌&&◌, Bool, List, [], ◌∷◌, ◌++◌, length}
use Rattle.run_model.specs.Machine.Entries.{Entry}
use Rattle.tree_model.specs.Nodes.{Kind, Hold, Node, Numbered, Alternatives, none, alternative, Status, Pending, Inner, Closed}

-- an alternative of a node: those to its left, the nearest first; its spent inferences; those to its right
pub record Level : Type 0 where
  pub number : ℕ
  pub kind : Kind
  pub left : List (ℕ × Status)
  pub spent : ℕ
  pub right : Alternatives

-- alternatives, the nearest first, put back to the left of others
abbrev pub put_left : List (ℕ × Status) → Alternatives → Alternatives
put_left [] others = others
put_left (a ∷ left) others = put_left left (alternative a.0 a.1 others)

abbrev pub level_node : Level → Status → Node
level_node v status = Numbered v.number v.kind (put_left v.left (alternative v.spent status v.right))

-- what is round a place, the innermost level first, with this status put into the place
abbrev pub plug : List Level → Status → Status
plug [] status = status
plug (v ∷ up) status = plug up (Inner (level_node v status))

-- names an alternative: its node's number, and its index from the left
pub record Place : Type 0 where
  pub node : ℕ
  pub index : ℕ

abbrev pub same_place : Place → Place → Bool
same_place a b = (a.node == b.node) && (a.index == b.index)

abbrev pub place_at : Level → Place
place_at v = record { node = v.number; index = length v.left }

-- an alternative for which an entry stands
pub record Spot : Type 0 where
  pub level : Level
  pub above : List Level
  pub hold : Hold
  pub entry : Entry

abbrev pub levels_of : Spot → List Level
levels_of s = s.level ∷ s.above

abbrev pub place_of_spot : Spot → Place
place_of_spot s = place_at s.level

-- the alternatives for which an entry stands, from left to right: what is pending
abbrev mutual
  pub pending_in : List Level → Node → List Spot
  pending_in up (Numbered n kind alternatives) = pending_among up n kind [] alternatives

  pub pending_among : List Level → ℕ → Kind → List (ℕ × Status) → Alternatives → List Spot
  pending_among up n kind left none = []
  pending_among up n kind left (alternative spent status others) =
      pending_below (record { number = n; kind = kind; left = left; spent = spent; right = others }) up status
      ++ pending_among up n kind ((spent, status) ∷ left) others

  pub pending_below : Level → List Level → Status → List Spot
  pending_below v up (Pending hold entry) = record { level = v; above = up; hold = hold; entry = entry } ∷ []
  pending_below v up (Inner node) = pending_in (v ∷ up) node
  pending_below v up (Closed credit) = []

-- of a whole tree
abbrev pub pending_of : Status → List Spot
pending_of (Pending hold entry) = []
pending_of (Inner node) = pending_in [] node
pending_of (Closed credit) = []
