-- Which events may happen.
use Rattle.std.specs.Prelude.{ℕ, ◌==◌, ◌&&◌, ◌||◌, Bool, true, false, not, cond, List, [], ◌∷◌, Option, Some, None, is_some, is_none}
use Rattle.std.specs.Prelude.{find, length, nat_le, nat_lt}
use Rattle.std.specs.List.{list_any}
use Rattle.run_model.specs.Machine.Items.{CollectMark}
use Rattle.run_model.specs.Machine.Entries.{Entry, PlainEntry}
use Rattle.tree_model.specs.Nodes.{Gate, CutGate, BallGate, WorldGate, FrozenGate, Hold, Ready, TakenBy, Waiting, Dormant}
use Rattle.tree_model.specs.Levels.{Level, Place, same_place, Spot, levels_of, place_of_spot}
use Rattle.tree_model.specs.Floors.{floor_of, with_heights}
use Rattle.tree_model.specs.Gates.{gate_on, scope_of}
use Rattle.tree_model.specs.PrivateRuns.{private_run}
use Rattle.tree_model.specs.Orders.{is_cleared, spent_on}
use Rattle.tree_model.specs.Pruning.{Task}
use Rattle.tree_model.specs.Shapes.{fits_shape}
use Rattle.tree_model.specs.Events.{Event, Claim, Nodes, Empty, Collected, Lost, Suspend, Resume, Prune, Answer, Stop}
use Rattle.tree_model.specs.TreeStates.{TreeState, pending_spots, leftmost, live, ended}

abbrev pub is_ready : Hold → Bool
is_ready Ready = true
is_ready (TakenBy w) = false
is_ready (Waiting g) = false
is_ready Dormant = false

abbrev pub is_taken_by : ℕ → Hold → Bool
is_taken_by w (TakenBy v) = w == v
is_taken_by w Ready = false
is_taken_by w (Waiting g) = false
is_taken_by w Dormant = false

abbrev pub is_spot_at : Place → Option Spot → Bool
is_spot_at a None = false
is_spot_at a (Some s) = same_place a (place_of_spot s)

-- the leftmost Ready alternative, where it is the leftmost pending one or the window leaves room
abbrev pub if_room : TreeState → Option Spot → Option Spot
if_room t None = None
if_room t (Some s) = cond (is_spot_at (place_of_spot s) (leftmost t) || nat_lt (live t) t.window) (Some s) None

abbrev pub claimable : TreeState → Option Spot
claimable t = if_room t (find (λ s. is_ready s.hold) (pending_spots t))

-- a branch that has reached the budget goes on never: all to its left would have to be closed, and then the tree has ended
abbrev pub may_resume : Spot → Hold → Bool
may_resume s (Waiting g) = is_cleared (scope_of g) (levels_of s)
may_resume s Ready = false
may_resume s (TakenBy w) = false
may_resume s Dormant = false

abbrev pub resumable : TreeState → Option Spot
resumable t = find (λ s. may_resume s s.hold) (pending_spots t)

-- an alternative that is out to this worker
abbrev pub taken_at : ℕ → Place → TreeState → Option Spot
taken_at w a t = find (λ s. is_taken_by w s.hold && same_place a (place_of_spot s)) (pending_spots t)

-- the gate of its next item
unfoldable pub gate_of : TreeState → Spot → Option Gate
gate_of t s = gate_on t.job.clauses (levels_of s) (with_heights (levels_of s) s.entry ∷ floor_of (levels_of s))

unfoldable pub run_of : TreeState → Spot → ℕ → Option (List Entry)
run_of t s k = private_run t.job.clauses (levels_of s) (with_heights (levels_of s) s.entry) k

abbrev pub gives_result : List Entry → Bool
gives_result (PlainEntry f ∷ []) = elim f.items [ CollectMark t h ∷ items ↦ true | i ↦ false ]
gives_result es = false

abbrev pub is_nonempty : List Entry → Bool
is_nonempty [] = false
is_nonempty (e ∷ es) = true

abbrev pub run_fits : ℕ → List ℕ → Option (List Entry) → Bool
run_fits low sizes None = false
run_fits low sizes (Some es) = is_nonempty es && fits_shape low sizes es

abbrev pub run_is_empty : Option (List Entry) → Bool
run_is_empty None = false
run_is_empty (Some es) = not (is_nonempty es)

abbrev pub run_gives_result : Option (List Entry) → Bool
run_gives_result None = false
run_gives_result (Some es) = gives_result es

abbrev pub is_frozen : TreeState → Spot → Bool
is_frozen t s = nat_le t.budget (spent_on s.above)

abbrev pub may_prune : List Level → Option Gate → Bool
may_prune levels (Some (CutGate n)) = is_cleared (Some n) levels
may_prune levels (Some (BallGate n)) = is_cleared (Some n) levels
may_prune levels (Some WorldGate) = false
may_prune levels (Some FrozenGate) = false
may_prune levels None = false

abbrev pub is_world_gate : Option Gate → Bool
is_world_gate (Some WorldGate) = true
is_world_gate (Some FrozenGate) = false
is_world_gate (Some (CutGate n)) = false
is_world_gate (Some (BallGate n)) = false
is_world_gate None = false

abbrev pub is_task : ℕ → Place → Task → Bool
is_task w a task = (task.worker == w) && same_place task.at a

-- at an alternative that is out
abbrev pub at_spot : Option Spot → (Spot → Bool) → Bool
at_spot None allowed = false
at_spot (Some s) allowed = allowed s

abbrev pub is_allowed : TreeState → Event → Bool
is_allowed t (Claim w a) = is_spot_at a (claimable t)
is_allowed t (Resume w a) = is_spot_at a (resumable t)
is_allowed t (Nodes w a k sizes) = at_spot (taken_at w a t) (λ s. nat_le 1 k && run_fits (length (levels_of s)) sizes (run_of t s k))
is_allowed t (Empty w a k) = at_spot (taken_at w a t) (λ s. run_is_empty (run_of t s k))
is_allowed t (Collected w a k) = at_spot (taken_at w a t) (λ s. run_gives_result (run_of t s k))
is_allowed t (Lost w a) = list_any (is_task w a) t.lost
is_allowed t (Suspend w a true) = at_spot (taken_at w a t) (is_frozen t)
is_allowed t (Suspend w a false) = at_spot (taken_at w a t) (λ s. is_some (gate_of t s))
is_allowed t (Prune w a) = at_spot (taken_at w a t) (λ s. may_prune (levels_of s) (gate_of t s))
is_allowed t (Answer w a true) = false
is_allowed t (Answer w a false) = at_spot (taken_at w a t) (λ s. is_world_gate (gate_of t s) && is_spot_at a (leftmost t))
is_allowed t (Stop w) = true

-- only while the tree has neither ended nor been stopped
unfoldable pub is_legal : TreeState → Event → Bool
is_legal t e = not t.stopped && (is_none (ended t) && is_allowed t e)
