-- Rows as the code keeps them, and how one is changed.
use Rattle.std.specs.Prelude.{◌≡◌, ◌<◌, ◌≤◌, ◌^◌, ℕ, zero, suc, length, List, [], ◌∷◌, ◌++◌, Option, Some, None, slice_set}
use Rattle.std.specs.Arc.{arc_value}
use Rattle.std.specs.Global.{Global}
use Rattle.std.specs.declared.boxed.Box.{Box}
use Rattle.tree_model.specs.declared.places.AltRef.{AltRef}
use Rattle.tree_model.specs.EventViews.{place_view}
use Rattle.tree_model.specs.Levels.{Place}
use Rattle.tree_nodes.specs.declared.row.Row.{Row}
use Rattle.tree_nodes.specs.declared.row.Shortened.{Shortened}
use Rattle.tree_nodes.specs.declared.row.Shortened.TheVariants as shortened
use Rattle.clause_compile.specs.declared.event.Branch.{Branch}
use Rattle.tree_nodes.specs.Bodies.{Body, BodyKind, body_view, first_hold}
use Rattle.tree_nodes.specs.Rows.{AlternativeCell, PendingCell, InnerCell, ClosedCell, StoredNode}

abbrev pub parent_view : Option AltRef → Option Place
parent_view None = None
parent_view (Some at) = Some (place_view at)

abbrev pub row_view : Row → StoredNode
row_view r = record { parent = parent_view r.parent; body = body_view (arc_value r.body); cells = r.alternatives }

abbrev pub slot_view : Option (Box Row Global) → Option StoredNode
slot_view None = None
slot_view (Some b) = Some (row_view b.value)

-- the index of each alternative fits 32 bits, and there is a branch for each
abbrev pub IsRowNarrow : Option StoredNode → Type 0
IsRowNarrow None = Unit {0}
IsRowNarrow (Some r) = (length r.cells < 2 ^ 32) × (length r.cells ≤ length r.body.branches)

abbrev pub branches_at : Option StoredNode → List Branch
branches_at None = []
branches_at (Some r) = r.body.branches

abbrev pub with_cells : List (ℕ × AlternativeCell) → StoredNode → StoredNode
with_cells cells r = record { parent = r.parent; body = r.body; cells = cells }

-- the row with another cell at an index
abbrev pub with_state : ℕ → ℕ × AlternativeCell → Option StoredNode → Option StoredNode
with_state i cell None = None
with_state i cell (Some r) = Some (with_cells (slice_set r.cells i cell) r)

-- which node is below an alternative, if there is one
abbrev pub inner_of : AlternativeCell → Option ℕ
inner_of (PendingCell hold) = None
inner_of (InnerCell n) = Some n
inner_of (ClosedCell credit) = None

-- the last alternative is taken off a row
pub record IsShorter (r : StoredNode) (new : Option StoredNode) (below : Option ℕ) : Type 0 where
  pub cells : List (ℕ × AlternativeCell)
  pub last : ℕ × AlternativeCell
  pub were : r.cells ≡ cells ++ last ∷ []
  pub are : new ≡ Some (with_cells cells r)
  pub inner : below ≡ inner_of last.1

-- a row without alternatives goes
pub record IsGone (r : StoredNode) (new : Option StoredNode) (above : Option AltRef) : Type 0 where
  pub were : r.cells ≡ []
  pub are : new ≡ None
  pub parent : parent_view above ≡ r.parent

abbrev pub IsShortened : Option StoredNode → Option StoredNode → Shortened → Type 0
IsShortened None new (shortened.Alternative inner) = ⊥
IsShortened None new (shortened.Row parent) = ⊥
IsShortened None new shortened.Nothing = new ≡ None
IsShortened (Some r) new (shortened.Alternative inner) = IsShorter r new inner
IsShortened (Some r) new (shortened.Row parent) = IsGone r new parent
IsShortened (Some r) new shortened.Nothing = ⊥

-- the cells of a new node's alternatives from an index on, so many of them
abbrev pub new_cells : BodyKind → ℕ → ℕ → List (ℕ × AlternativeCell)
new_cells kind i zero = []
new_cells kind i (suc k) = (0, PendingCell (first_hold kind i)) ∷ new_cells kind (suc i) k

abbrev pub new_row : Option Place → Body → StoredNode
new_row parent body = record { parent = parent; body = body; cells = new_cells body.kind 0 (length body.branches) }
