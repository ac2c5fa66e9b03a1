-- What stays of the rows: what they are below, and what they were made from.
use Rattle.std.specs.Prelude.{◌≡◌, ◌<◌, ◌≤◌, ℕ, Option, Some, None, length}
use Rattle.tree_nodes.specs.Rows.{StoredNode, Rows, row_of_node}

-- a row was there before, below the same alternative and made from the same
pub record WasMadeAs (rows : Rows) (n : ℕ) (row : StoredNode) : Type 0 where
  pub was : StoredNode
  pub there : row_of_node rows n ≡ Some was
  pub parent : was.parent ≡ row.parent
  pub body : was.body ≡ row.body

-- no number is given back, so none names another node than before; rows that were there and still are keep the alternative
-- that they are below and what they were made from
pub record StayMade (old new : Rows) : Type 0 where
  pub longer : length old ≤ length new
  pub stay : (n : ℕ) (row : StoredNode) → n < length old → row_of_node new n ≡ Some row → WasMadeAs old n row

-- each number names the row that it named before, or none as before
abbrev pub AreAllSame : Rows → Rows → Type 0
AreAllSame old new = (n : ℕ) → row_of_node new n ≡ row_of_node old n

-- a row that is there now was there, below the same alternative and made from the same
abbrev pub IsMadeAs : Option StoredNode → Option StoredNode → Type 0
IsMadeAs was None = Unit {0}
IsMadeAs None (Some r) = ⊥
IsMadeAs (Some q) (Some r) = (q.parent ≡ r.parent) × (q.body ≡ r.body)
