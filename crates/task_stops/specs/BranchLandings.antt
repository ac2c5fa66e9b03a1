-- What a ball leaves of a branch, by where it lands.
use Rattle.std.specs.Prelude.{◌≡◌, ℕ, suc, ◌+◌, ◌-◌, ◌<◌, true, List, [], ◌∷◌, length, map, Option, Some, None}
use Rattle.au_term.specs.Term.{Term}
use Rattle.au_model.specs.Terms.Each.{Each}
use Rattle.au_model.specs.Terms.Copies.{copied, copy_takes}
use Rattle.au_model.specs.Terms.Substitutions.{Substitution, resolve}
use Rattle.run_model.specs.Programs.Bodies.{call_of}
use Rattle.run_model.specs.Programs.Jobs.{Job}
use Rattle.run_model.specs.Machine.Balls.{unwound}
use Rattle.run_model.specs.Machine.Entries.{Entry, PlainEntry, EndEntry}
use Rattle.run_model.specs.Machine.Items.{GoalItem, Continuation, before, with_next, resolve_continuation}
use Rattle.tree_model.specs.Floors.{floor_of, height_of, node_of, renamed_continuation}
use Rattle.tree_model.specs.Levels.{Level, Place, plug, place_at}
use Rattle.tree_model.specs.Nodes.{Status}
use Rattle.tree_model.specs.NumberedTrees.{IsNumberedStatus}
use Rattle.tree_model.specs.PendingLists.{way_of}
use Rattle.tree_model.specs.SoundTrees.{IsSound}
use Rattle.tree_model.specs.Ways.{is_on}
use Rattle.tree_nodes.specs.Bodies.{CatchBody, Branching}
use Rattle.tree_closing.specs.Closings.{HangTogether}
use Rattle.tree_nodes.specs.Rows.{StoredNode, Rows, row_of_node}
use Rattle.tree_nodes.specs.TreeTables.{NodesView, IsTableOf, IsWayTo, above_of}
use Rattle.branch_shapes.specs.FloorItems.{NamesLevels}
use Rattle.branch_reading.specs.Readings.{continuation_on, items_meant, reading}
use Rattle.branch_reading.specs.SettledWays.{is_way_settled, items_on}
use Rattle.task_region.specs.PlacesUp.{body_at, branching_at}
use Rattle.task_stops.specs.Landings.{bound_on, landing, taken_on, way_beside}

-- a mark by its height over levels
abbrev pub height_of_mark : List Level → Option ℕ → Option ℕ
height_of_mark levels None = None
height_of_mark levels (Some s) = Some (height_of levels s - 1)

-- it names a node of them
abbrev pub IsMarkOver : List Level → Option ℕ → Type 0
IsMarkOver levels None = Unit {0}
IsMarkOver levels (Some s) = is_on (way_of levels) s ≡ true

-- what follows a catch, by heights over the levels above it
abbrev pub by_heights_over : List Level → Continuation ℕ → Continuation ℕ
by_heights_over up f = renamed_continuation (height_of up) (λ s. height_of up s - 1) f

-- the recovery of a catch, before what follows the catch, with the unifier applied
abbrev pub recovered_by : Substitution → Term → Term → List Level → Continuation ℕ → Continuation ℕ
recovered_by o ball recovery up f =
    resolve_continuation o (with_next (f.next + copy_takes ball) (before (GoalItem (call_of recovery) (length up) ∷ []) (by_heights_over up f)))

-- what follows a catch, with what is bound on the way to it
abbrev pub continuation_bound : Job → Branching → Continuation ℕ
continuation_bound job way = resolve_continuation (bound_on way) (continuation_on job way)

-- the catch of a node takes a ball: its recovery goes on over the levels above it
pub record IsTakenAt (job : Job) (rows : Rows) (ball : Term) (levels : List Level) (p : Place) (above : List Place) (stack : List Entry) : Type 0 where
  pub level : Level
  pub up : List Level
  pub at : place_at level ≡ p
  pub above_are : above ≡ map place_at up
  pub below : length up < length levels
  pub scope : node_of levels (suc (length up)) ≡ p.node
  pub nodes_up : (h : ℕ) → h < suc (length up) → node_of levels h ≡ node_of up h
  pub row : StoredNode
  pub row_is : row_of_node rows p.node ≡ Some row
  pub parent : row.parent ≡ above_of up
  pub on : IsWayTo rows up (branching_at rows above)
  pub hang : HangTogether rows up
  pub names : Each (NamesLevels up) (items_meant (items_on (way_beside rows p above)))
  pub catcher : Term
  pub recovery : Term
  pub kind : (body_at rows p).kind ≡ CatchBody catcher recovery
  pub settled : is_way_settled (way_beside rows p above) ≡ true
  pub unifier : Substitution
  pub takes : taken_on (way_beside rows p above) catcher ball ≡ Some unifier
  pub leaves : stack ≡ PlainEntry (recovered_by unifier ball (resolve (bound_on (way_beside rows p above)) recovery) up (continuation_bound job (way_beside rows p above))) ∷ floor_of up

-- or no catch does, and the query ends with it
abbrev pub LeavesAt : Job → Rows → Term → List Level → List Place → List Entry → Type 0
LeavesAt job rows ball levels [] stack = stack ≡ EndEntry (Some (copied ball 0)) ∷ []
LeavesAt job rows ball levels (p ∷ above) stack = IsTakenAt job rows ball levels p above stack

-- on the branch of each sound tree for which the nodes stand
abbrev pub BallsLandByNodes : Type 0
BallsLandByNodes =
    (job : Job) (nodes : NodesView) (levels : List Level) (status : Status) (ball : Term) (mark : Option ℕ) → IsTableOf nodes (reading job) (plug levels status)
    → IsSound [] (plug levels status) → IsNumberedStatus (plug levels status) → IsMarkOver levels mark
    → LeavesAt job nodes.rows ball levels (landing nodes.rows ball mark (map place_at levels)) (unwound ball (height_of_mark levels mark) (floor_of levels))
