-- How calls change the tree, round a place.
use Rattle.std.specs.Prelude.{◌≡◌, Bool, true, false, ℕ, ◌+◌, ◌-◌, ◌≤◌, min, List, [], ◌∷◌, Option, Some, None, length}
use Rattle.run_model.specs.Machine.Entries.{Entry}
use Rattle.tree_model.specs.Credits.{Credit, added, credit_of}
use Rattle.tree_model.specs.Nodes.{Status, Pending, Inner, Closed}
use Rattle.tree_model.specs.Levels.{Level, plug, Place, place_at}
use Rattle.tree_model.specs.Closing.{all_closed}
use Rattle.tree_nodes.specs.Bodies.{Body, Branching, Reading, new_node}
use Rattle.tree_nodes.specs.Rows.{AlternativeCell, PendingCell, InnerCell, ClosedCell, Rows, row_of_node, cell_at}
use Rattle.tree_nodes.specs.TreeTables.{NodesView, IsTableOf, IsWayTo}

-- the entry stays where one is pending
abbrev pub IsEntryOf : Status → Entry → Type 0
IsEntryOf (Pending hold entry) e = e ≡ entry
IsEntryOf (Inner node) e = Unit {0}
IsEntryOf (Closed credit) e = Unit {0}

-- the nodes stand for the tree with this at the place, in place of what was there
abbrev pub IsSet : NodesView → Reading → List Level → Status → AlternativeCell → Type 0
IsSet new read levels was (PendingCell hold) = (e : Entry) × (IsEntryOf was e × IsTableOf new read (plug levels (Pending hold e)))
IsSet new read levels was (InnerCell n) = IsTableOf new read (plug levels was)
IsSet new read levels was (ClosedCell credit) = IsTableOf new read (plug levels (Closed credit))

-- at this place there is another cell, and so many inferences are spent; what stood below is gone, but for the node of
-- the cell
abbrev pub SetsCell : NodesView → NodesView → Place → ℕ → AlternativeCell → Type 0
SetsCell old new a spent cell =
    (read : Reading) (v : Level) (up : List Level) (was : Status) → place_at v ≡ a → IsTableOf old read (plug (v ∷ up) was)
    → IsSet new read (record v { spent = spent } ∷ up) was cell

-- no number is drawn or given back, and the same is provided for
pub record KeepsNumbers (old new : NodesView) : Type 0 where
  pub length : length new.rows ≡ length old.rows
  pub spare : new.spare ≡ old.spare

-- a cell may be put in place of another: a node only of its own alternative
abbrev pub Fits : Option (ℕ × AlternativeCell) → AlternativeCell → Type 0
Fits was (PendingCell hold) = Unit {0}
Fits was (ClosedCell credit) = Unit {0}
Fits (Some c) (InnerCell n) = c.1 ≡ InnerCell n
Fits None (InnerCell n) = ⊥

-- a new node is below a place
abbrev pub AddsNode : NodesView → NodesView → Place → ℕ → Body → Type 0
AddsNode old new a n body =
    (read : Reading) (v : Level) (up : List Level) (was : Status) (way : Branching) → place_at v ≡ a
    → IsTableOf old read (plug (v ∷ up) was) → IsWayTo old.rows (v ∷ up) way
    → IsTableOf new read (plug (v ∷ up) (Inner (new_node read way n body)))

-- a new node is all of the tree
abbrev pub AddsFirst : NodesView → NodesView → ℕ → Body → Type 0
AddsFirst old new n body = (read : Reading) (c : Credit) → IsTableOf old read (Closed c) → IsTableOf new read
    (Inner (new_node read [] n body))

abbrev pub Adds : NodesView → NodesView → Option Place → ℕ → Body → Type 0
Adds old new None n body = AddsFirst old new n body
Adds old new (Some a) n body = AddsNode old new a n body

-- what has an entry can get a node below it; a first node is added where no node is there
abbrev pub is_pending_cell : AlternativeCell → Bool
is_pending_cell (PendingCell hold) = true
is_pending_cell (InnerCell n) = false
is_pending_cell (ClosedCell credit) = false

abbrev pub is_pending : Option (ℕ × AlternativeCell) → Bool
is_pending None = false
is_pending (Some c) = is_pending_cell c.1

abbrev pub IsOpenCell : Option (ℕ × AlternativeCell) → Type 0
IsOpenCell o = is_pending o ≡ true

abbrev pub CanHold : NodesView → Option Place → Type 0
CanHold nodes None = nodes.live ≡ 0
CanHold nodes (Some a) = IsOpenCell (cell_at nodes.rows a)

-- numbers from one on name no node
abbrev pub AreGone : Rows → ℕ → Type 0
AreGone rows next = (m : ℕ) → next ≤ m → row_of_node rows m ≡ None

-- they are drawn anew, and the tree is the same
pub record GivesBack (old new : NodesView) (next : ℕ) : Type 0 where
  pub length : length new.rows ≡ min next (length old.rows)
  pub spare : new.spare ≡ old.spare
  pub same : (read : Reading) (root : Status) → IsTableOf old read root → IsTableOf new read root

-- no number is drawn, and one closing less is provided for
pub record LowersSpare (old new : NodesView) : Type 0 where
  pub length : length new.rows ≡ length old.rows
  pub spare : new.spare ≡ old.spare - 1

-- one more number is drawn, and the same is provided for
pub record IsLonger (old new : NodesView) : Type 0 where
  pub length : length new.rows ≡ length old.rows + 1
  pub spare : new.spare ≡ old.spare

-- the first node is the one without a parent
abbrev pub root_after : Option ℕ → Option Place → ℕ → Option ℕ
root_after first None n = Some n
root_after first (Some a) n = first

-- levels, and what the alternative of the innermost has closed with
pub record Folded : Type 0 where
  pub levels : List Level
  pub credit : Credit

abbrev pub folded_on : Option Credit → List Level → Credit → (Credit → Folded) → Folded
folded_on None levels c go = record { levels = levels; credit = c }
folded_on (Some total) levels c go = go total

-- an alternative closes with this credit; nodes whose alternatives are all closed fold into the alternative above, one
-- without an alternative above excepted
abbrev pub folded_up : List Level → Credit → Folded
folded_up [] c = record { levels = []; credit = c }
folded_up (v ∷ []) c = record { levels = v ∷ []; credit = c }
folded_up (v ∷ u ∷ up) c = folded_on (all_closed v c) (v ∷ u ∷ up) c (λ total. folded_up (u ∷ up) (added (credit_of u.spent) total))

abbrev pub closed_tree : Folded → Status
closed_tree f = plug f.levels (Closed f.credit)

abbrev pub ClosesAt : NodesView → NodesView → Place → Credit → Type 0
ClosesAt old new a c =
    (read : Reading) (v : Level) (up : List Level) (was : Status) → place_at v ≡ a → IsTableOf old read (plug (v ∷ up) was)
    → IsTableOf new read (closed_tree (folded_up (v ∷ up) c))
