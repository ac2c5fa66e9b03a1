-- How one alternative of a table is changed.
use Rattle.std.specs.Prelude.{◌≡◌, ◌≢◌, ℕ, Option, Some, None, length, IsSome}
use Rattle.tree_model.specs.Levels.{Place}
use Rattle.tree_nodes.specs.Rows.{AlternativeCell, InnerCell, Rows, row_of_node, cell_at}
use Rattle.tree_nodes.specs.RowViews.{with_state, inner_of}
use Rattle.tree_nodes.specs.Drops.{DropsNode}

abbrev pub inner_at : Option (ℕ × AlternativeCell) → Option ℕ
inner_at None = None
inner_at (Some c) = inner_of c.1

-- another cell is at a place, and which node was below it
pub record IsReplaced (rows new : Rows) (a : Place) (cell : ℕ × AlternativeCell) (below : Option ℕ) : Type 0 where
  pub row : row_of_node new a.node ≡ with_state a.index cell (row_of_node rows a.node)
  pub same : (m : ℕ) → m ≢ a.node → row_of_node new m ≡ row_of_node rows m
  pub length : length new ≡ length rows
  pub inner : below ≡ inner_at (cell_at rows a)

-- the node that was below goes where none is below now
abbrev pub IsDroppedBy : Option ℕ → Option ℕ → Rows → ℕ → Rows → ℕ → Type 0
IsDroppedBy (Some n) None rows live new left = DropsNode rows live new left n
IsDroppedBy (Some n) (Some m) rows live new left = (new ≡ rows) × (left ≡ live)
IsDroppedBy None other rows live new left = (new ≡ rows) × (left ≡ live)

pub record IsStatePut (rows : Rows) (live : ℕ) (new : Rows) (left : ℕ) (a : Place) (cell : ℕ × AlternativeCell) : Type 0 where
  pub middle : Rows
  pub below : Option ℕ
  pub replaced : IsReplaced rows middle a cell below
  pub dropped : IsDroppedBy below (inner_of cell.1) middle live new left

-- a place has this node below it, and the same is spent
pub record IsLinkedAt (rows new : Rows) (a : Place) (n : ℕ) : Type 0 where
  pub spent : ℕ
  pub cell : AlternativeCell
  pub below : Option ℕ
  pub there : cell_at rows a ≡ Some (spent, cell)
  pub replaced : IsReplaced rows new a (spent, InnerCell n) below

abbrev pub IsLinked : Rows → Rows → Option Place → ℕ → Type 0
IsLinked rows new None n = new ≡ rows
IsLinked rows new (Some a) n = IsLinkedAt rows new a n

abbrev pub IsPlaceIn : Rows → Option Place → Type 0
IsPlaceIn rows None = Unit {0}
IsPlaceIn rows (Some a) = IsSome (cell_at rows a)
