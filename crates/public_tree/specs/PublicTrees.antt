-- The public part of a tree: its nodes, who has what, and the events so far.
use Rattle.std.specs.Prelude.{◌≡◌, ◌⊎◌, ℕ, Bool, true, false, not, ◌&&◌, is_none, is_some, cond, List, [], ◌∷◌, ◌++◌, ◌+◌, length, Option, Some, None}
use Rattle.std.specs.Option.{option_map}
use Rattle.run_model.specs.Machine.Entries.{Entry}
use Rattle.tree_model.specs.Credits.{no_credit}
use Rattle.tree_model.specs.Nodes.{Gate, CutGate, BallGate, WorldGate, FrozenGate, Hold, Status, Pending, Inner, Closed}
use Rattle.tree_model.specs.Levels.{Level, plug, Place, place_at, Spot, place_of_spot, pending_of}
use Rattle.tree_model.specs.Events.{Event, Lost, Suspend, Stop}
use Rattle.tree_model.specs.Pruning.{Task}
use Rattle.tree_model.specs.TreeStates.{TreeState, first_spot, ended}
use Rattle.tree_model.specs.Legality.{is_spot_at, is_taken_by, taken_at, gate_of, is_frozen, is_legal}
use Rattle.tree_model.specs.Effects.{after_event}
use Rattle.tree_model.specs.Histories.{after_events, are_legal}
use Rattle.tree_model.specs.SoundTrees.{IsSound, IsSoundTree}
use Rattle.tree_nodes.specs.Bodies.{Reading}
use Rattle.tree_nodes.specs.Rows.{AlternativeCell, PendingCell, InnerCell, ClosedCell}
use Rattle.tree_nodes.specs.TreeTables.{NodesView, IsTableOf}
use Rattle.public_tree.specs.EventLogs.{LogView}

pub record PublicView : Type 0 where
  pub nodes : NodesView
  -- the tasks that are out and have been pruned
  pub lost : List Task
  pub halted : Option ℕ
  pub budget : ℕ
  pub window : ℕ
  pub log : LogView

-- a tree without nodes has counted nothing
abbrev pub IsRooted : Status → Type 0
IsRooted (Closed credit) = credit ≡ no_credit
IsRooted (Pending hold entry) = Unit {0}
IsRooted (Inner node) = Unit {0}

-- it stands for a sound tree
pub record IsPublicOf (p : PublicView) (read : Reading) (t : TreeState) : Type 0 where
  pub placed : IsTableOf p.nodes read t.root
  pub next : length p.nodes.rows ≡ t.next
  pub lost : p.lost ≡ t.lost
  pub halted : p.halted ≡ t.halted
  pub budget : p.budget ≡ t.budget
  pub window : p.window ≡ t.window
  pub stopped : p.log.stopped ≡ t.stopped
  pub sound : IsSoundTree t
  pub rooted : IsRooted t.root

-- of each tree for which it stands, this is the answer
abbrev pub Answers : {A : Type 0} → PublicView → (TreeState → A) → A → Type 0
Answers p of result = (read : Reading) (t : TreeState) → IsPublicOf p read t → result ≡ of t

-- an event that may happen has happened, and was noted
pub record Notes (old new : PublicView) (e : Event) : Type 0 where
  pub noted : new.log.events ≡ old.log.events ++ e ∷ []
  pub budget : new.budget ≡ old.budget
  pub window : new.window ≡ old.window
  pub legal : (read : Reading) (t : TreeState) → IsPublicOf old read t → is_legal t e ≡ true
  pub stands : (read : Reading) (t : TreeState) → IsPublicOf old read t → IsPublicOf new read (after_event t e)

-- an event that may happen in this tree has happened, and was noted
pub record NotesIn (old new : PublicView) (e : Event) (read : Reading) (t : TreeState) : Type 0 where
  pub noted : new.log.events ≡ old.log.events ++ e ∷ []
  pub budget : new.budget ≡ old.budget
  pub window : new.window ≡ old.window
  pub legal : is_legal t e ≡ true
  pub stands : IsPublicOf new read (after_event t e)

-- events that may happen one after the other in this tree have happened, and were noted
pub record NotesAllIn (old new : PublicView) (es : List Event) (read : Reading) (t : TreeState) : Type 0 where
  pub noted : new.log.events ≡ old.log.events ++ es
  pub budget : new.budget ≡ old.budget
  pub window : new.window ≡ old.window
  pub legal : are_legal t es ≡ true
  pub stands : IsPublicOf new read (after_events t es)

-- nothing has happened
pub record IsSameTree (old new : PublicView) : Type 0 where
  pub noted : new.log.events ≡ old.log.events
  pub budget : new.budget ≡ old.budget
  pub window : new.window ≡ old.window
  pub stands : (read : Reading) (t : TreeState) → IsPublicOf old read t → IsPublicOf new read t

-- whether the tree has neither ended nor been stopped
abbrev pub is_going : TreeState → Bool
is_going t = not t.stopped && is_none (ended t)

-- what is offered as long as it goes on
abbrev pub offered : TreeState → Option Spot → Option Spot
offered t o = cond (is_going t) o None

-- what was offered is handed out, or nothing was
abbrev pub HandsOut : (Place → Event) → (TreeState → Option Spot) → PublicView → PublicView → Option Place → Type 0
HandsOut event offer old new (Some a) = Notes old new (event a)
HandsOut event offer old new None =
    IsSameTree old new × ((read : Reading) (t : TreeState) → IsPublicOf old read t → offered t (offer t) ≡ None)

-- of each tree for which it stands, this is the place of what may be handed out
abbrev pub Offers : (TreeState → Option Spot) → PublicView → Option Place → Type 0
Offers offer p result = (read : Reading) (t : TreeState) → IsPublicOf p read t → option_map place_of_spot (offer t) ≡ result

-- an entry is held by another
abbrev pub IsHeldAt : NodesView → NodesView → Place → Hold → Type 0
IsHeldAt old new a hold =
    (read : Reading) (v : Level) (up : List Level) (was : Hold) (entry : Entry) → place_at v ≡ a
    → IsTableOf old read (plug (v ∷ up) (Pending was entry)) → IsTableOf new read (plug (v ∷ up) (Pending hold entry))

-- whether the leftmost entry of a sound tree is here
abbrev pub IsLeftmostAt : NodesView → Place → Bool → Type 0
IsLeftmostAt nodes a result =
    (read : Reading) (root : Status) → IsTableOf nodes read root → IsSound [] root → result ≡ is_spot_at a (first_spot (pending_of root))

-- the tree stops, or it had ended or been stopped
abbrev pub Stops : PublicView → PublicView → ℕ → Type 0
Stops old new w =
    Notes old new (Stop w) ⊎ (IsSameTree old new × ((read : Reading) (t : TreeState) → IsPublicOf old read t → is_going t ≡ false))

-- an alternative is out to this worker
abbrev pub IsOut : PublicView → ℕ → Place → Type 0
IsOut p w a = (read : Reading) (t : TreeState) → IsPublicOf p read t → is_some (taken_at w a t) ≡ true

abbrev pub is_frozen_gate : Gate → Bool
is_frozen_gate FrozenGate = true
is_frozen_gate (CutGate n) = false
is_frozen_gate (BallGate n) = false
is_frozen_gate WorldGate = false

-- the gate of the next item, or the branch has reached the budget
abbrev pub IsGateAt : TreeState → Spot → Gate → Type 0
IsGateAt t s FrozenGate = is_frozen t s ≡ true
IsGateAt t s (CutGate n) = gate_of t s ≡ Some (CutGate n)
IsGateAt t s (BallGate n) = gate_of t s ≡ Some (BallGate n)
IsGateAt t s WorldGate = gate_of t s ≡ Some WorldGate

-- in this tree, the gate of what is out to a worker
abbrev pub IsItsGate : Gate → ℕ → Place → TreeState → Type 0
IsItsGate g w a t = (s : Spot) → taken_at w a t ≡ Some s → IsGateAt t s g

-- in each tree for which it stands and of which this is the gate it is given back to wait; or the tree had ended or been stopped
abbrev pub Suspends : PublicView → PublicView → ℕ → Place → Gate → Type 0
Suspends old new w a g =
    ((read : Reading) (t : TreeState) → IsPublicOf old read t → IsItsGate g w a t → NotesIn old new (Suspend w a (is_frozen_gate g)) read t)
    ⊎ (IsSameTree old new × ((read : Reading) (t : TreeState) → IsPublicOf old read t → is_going t ≡ false))

-- whether a worker has what is here
abbrev pub is_taken_cell : ℕ → AlternativeCell → Bool
is_taken_cell w (PendingCell hold) = is_taken_by w hold
is_taken_cell w (InnerCell n) = false
is_taken_cell w (ClosedCell credit) = false

abbrev pub is_taken_at : ℕ → Option (ℕ × AlternativeCell) → Bool
is_taken_at w None = false
is_taken_at w (Some c) = is_taken_cell w c.1

-- a task that was pruned is given back, or the tree had ended or been stopped
abbrev pub GivesUp : PublicView → PublicView → ℕ → Place → Type 0
GivesUp old new w a = Notes old new (Lost w a)
    ⊎ (IsSameTree old new × ((read : Reading) (t : TreeState) → IsPublicOf old read t → is_going t ≡ false))

-- one task more is promised to come back, where one went out
abbrev pub promised_out : Option Place → ℕ → ℕ
promised_out None n = n
promised_out (Some a) n = n + 1
