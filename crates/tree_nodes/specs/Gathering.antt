-- The credits beside an alternative, added up.
use Rattle.std.specs.Prelude.{◌≡◌, ◌≢◌, ℕ, suc, ◌&&◌, Bool, true, false, List, [], ◌∷◌, Option, Some, None, take, drop}
use Rattle.tree_model.specs.Credits.{Credit, added, credit_of}
use Rattle.tree_model.specs.Levels.{Place}
use Rattle.tree_nodes.specs.Rows.{AlternativeCell, PendingCell, InnerCell, ClosedCell, StoredNode, Rows, row_of_node, cell_at}

abbrev pub closed_in : AlternativeCell → Option Credit
closed_in (PendingCell hold) = None
closed_in (InnerCell n) = None
closed_in (ClosedCell credit) = Some credit

abbrev pub is_shut : AlternativeCell → Bool
is_shut (PendingCell hold) = false
is_shut (InnerCell n) = false
is_shut (ClosedCell credit) = true

abbrev pub is_shut_at : Option (ℕ × AlternativeCell) → Bool
is_shut_at None = false
is_shut_at (Some c) = is_shut c.1

abbrev pub are_shut : List (ℕ × AlternativeCell) → Bool
are_shut [] = true
are_shut (c ∷ cells) = is_shut c.1 && are_shut cells

abbrev pub add_left : Option Credit → Credit → Credit
add_left None c = c
add_left (Some d) c = added d c

abbrev pub add_right : Credit → Option Credit → Credit
add_right c None = c
add_right c (Some d) = added c d

-- a credit, and those on its left, in their order
abbrev pub with_left : List (ℕ × AlternativeCell) → Credit → Credit
with_left [] c = c
with_left (x ∷ cells) c = add_left (closed_in x.1) (with_left cells c)

-- a credit, and those on its right
abbrev pub with_right_credits : Credit → List (ℕ × AlternativeCell) → Credit
with_right_credits c [] = c
with_right_credits c (x ∷ cells) = with_right_credits (add_right c (closed_in x.1)) cells

abbrev pub shut_beside : ℕ → List (ℕ × AlternativeCell) → Bool
shut_beside i cells = are_shut (take i cells) && are_shut (drop (suc i) cells)

abbrev pub with_beside : ℕ → List (ℕ × AlternativeCell) → Credit → Credit
with_beside i cells c = with_left (take i cells) (with_right_credits c (drop (suc i) cells))

-- a node in which all but one alternative have closed folds into the alternative above it, where there is one
pub record IsFolding (rows : Rows) (at above : Place) (c total : Credit) : Type 0 where
  pub row : StoredNode
  pub here : row_of_node rows at.node ≡ Some row
  pub parent : row.parent ≡ Some above
  pub shut : shut_beside at.index row.cells ≡ true
  pub spent : ℕ
  pub cell : AlternativeCell
  pub there : cell_at rows above ≡ Some (spent, cell)
  pub sum : total ≡ added (credit_of spent) (with_beside at.index row.cells c)

-- it folds, and the sum has records
pub record FoldsWithRecords (rows : Rows) (at : Place) (c : Credit) : Type 0 where
  pub above : Place
  pub total : Credit
  pub folds : IsFolding rows at above c total
  pub some : total.records ≢ []

abbrev pub StaysIn : Option Place → ℕ → List (ℕ × AlternativeCell) → Type 0
StaysIn None i cells = Unit {0}
StaysIn (Some above) i cells = shut_beside i cells ≡ false

pub record IsStaying (rows : Rows) (at : Place) (c total : Credit) : Type 0 where
  pub row : StoredNode
  pub here : row_of_node rows at.node ≡ Some row
  pub stays : StaysIn row.parent at.index row.cells
  pub sum : total ≡ c

abbrev pub IsFoldStep : Rows → Place → Credit → Option Place → Credit → Type 0
IsFoldStep rows at c (Some above) total = IsFolding rows at above c total
IsFoldStep rows at c None total = IsStaying rows at c total

-- what is beside an alternative was added where all of it is closed
abbrev pub Gathers : Option StoredNode → ℕ → Bool → Credit → Credit → Type 0
Gathers None i shut c total = ⊥
Gathers (Some r) i true c total = (shut_beside i r.cells ≡ true) × (total ≡ with_beside i r.cells c)
Gathers (Some r) i false c total = (shut_beside i r.cells ≡ false) × (total ≡ c)

-- all beside an alternative is closed, and the sum has records
abbrev pub GathersRecords : Option StoredNode → ℕ → Credit → Type 0
GathersRecords None i c = ⊥
GathersRecords (Some r) i c = (shut_beside i r.cells ≡ true) × ((with_beside i r.cells c).records ≢ [])
