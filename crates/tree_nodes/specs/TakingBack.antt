-- How an alternative gets the entry of its branch back.
use Rattle.std.specs.Prelude.{◌≡◌, ℕ, List, ◌∷◌}
use Rattle.tree_model.specs.Levels.{Level, plug, Place, place_at}
use Rattle.tree_model.specs.Nodes.{TakenBy, Status, Pending}
use Rattle.tree_nodes.specs.Bodies.{Branching, Reading}
use Rattle.tree_nodes.specs.Puts.{IsStatePut}
use Rattle.tree_nodes.specs.Rows.{AlternativeCell}
use Rattle.tree_nodes.specs.TreeTables.{NodesView, IsTableOf, IsWayTo}

-- another cell is at a place
pub record IsTakenBack (old new : NodesView) (a : Place) (cell : ℕ × AlternativeCell) : Type 0 where
  pub state : IsStatePut old.rows old.live new.rows new.live a cell
  pub first : new.first ≡ old.first

-- at this place there is the entry of its branch, in a worker's hands, and so many inferences are spent; what stood below is gone
abbrev pub TakesBack : NodesView → NodesView → Place → ℕ → ℕ → Type 0
TakesBack old new a w spent =
    (read : Reading) (v : Level) (up : List Level) (was : Status) (way : Branching) → place_at v ≡ a → IsTableOf old read (plug (v ∷ up) was)
    → IsWayTo old.rows (v ∷ up) way → IsTableOf new read (plug (record v { spent = spent } ∷ up) (Pending (TakenBy w) (read way)))
