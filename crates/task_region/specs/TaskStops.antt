-- How far a task's region runs, and where it stops.
use Rattle.std.specs.Prelude.{◌≡◌, ◌≤◌, ◌<◌, ◌+◌, ℕ, List, [], ◌∷◌, Option, Some, None, IsSome, slice_get}
use Rattle.au_term.specs.Term.{Term}
use Rattle.au_model.specs.Terms.Named.{NamedTerm}
use Rattle.run_model.specs.Machine.Items.{Item, CollectMark, RemovalItem, before}
use Rattle.run_model.specs.Machine.Entries.{Entry, PlainEntry}
use Rattle.tree_model.specs.Floors.{node_of}
use Rattle.tree_model.specs.Nodes.{CutGate, WorldGate}
use Rattle.region_split.specs.Regions.{RegionView}
use Rattle.region_split.specs.ClauseTrials.{entries_at}
use Rattle.region_split.specs.declared.frame.FrameItem.{FrameItem}
use Rattle.region_split.specs.declared.frame.Position.{Position}
use Rattle.region_control.specs.Ahead.{goal_entry}
use Rattle.region_control.specs.declared.control.GoalPlace.{GoalPlace}
use Rattle.region_run.specs.Runs.{AsksWorldNext}
use Rattle.region_floor.specs.BareFloors.{TopGoal, goal_entries}
use Rattle.region_floor.specs.RegionRuns.{RegionRun, run_after, StandsAtGate, ComesToResult, FallsAt}
use Rattle.task_region.specs.GoalLoads.{nothing_here}
use Rattle.task_region.specs.TaskViews.{TaskView, task_stack}
use Rattle.task_region.specs.TaskStandings.{StandsOnRun}
use Rattle.task_region.specs.declared.running.TaskRan.{TaskRan}
use Rattle.task_region.specs.declared.running.TaskStop.{TaskStop}
use Rattle.task_region.specs.declared.running.TaskStop.TheVariants.{Limit, Cut, World, Removal, Answer, Collect, Ball, Empty}

-- a goal is on top
abbrev pub HasGoalOnTop : List Entry → Type 0
HasGoalOnTop stack = (t : TopGoal) × (stack ≡ goal_entries t)

-- a result is deferred under a number
abbrev pub IsResultAt : List (Item ℕ) → ℕ → Type 0
IsResultAt items number = (result : Term) × (h : ℕ) × (slice_get items number ≡ Some (CollectMark result h))

-- a goal that the world is asked for is next, and where it stands
pub record IsWorldNext (r : RegionView) (next : Option Position) (item : FrameItem) (g : GoalPlace) : Type 0 where
  pub asks : AsksWorldNext r item g
  pub entry : (named : List NamedTerm) → entries_at named r next ≡ goal_entry named r item g ∷ []

-- these items are all that is next
abbrev pub AreDeferredNext : RegionView → Option Position → List (Item ℕ) → Type 0
AreDeferredNext r next items = (named : List NamedTerm) → entries_at named r next ≡ PlainEntry (before items (nothing_here named r)) ∷ []

-- they stand for nothing that is deferred
abbrev pub StandForNothing : List (Item ℕ) → List (Item ℕ) → Type 0
StandForNothing deferred [] = Unit {0}
StandForNothing deferred (RemovalItem number ∷ []) = slice_get deferred number ≡ None
StandForNothing deferred items = ⊥

-- what is next where the world is needed: a goal, the removal of a clause that is deferred, or nothing; and at a result, that which is deferred
-- under its number
abbrev pub IsNextFor : TaskStop → TaskView → Type 0
IsNextFor Limit t = Unit {0}
IsNextFor (Cut node) t = Unit {0}
IsNextFor (World item g) t = IsWorldNext t.region t.next item g
IsNextFor (Removal clause) t = (number : ℕ) × (slice_get t.deferred number ≡ Some (RemovalItem clause)) × AreDeferredNext t.region t.next (RemovalItem number ∷ [])
IsNextFor Answer t = (items : List (Item ℕ)) × StandForNothing t.deferred items × AreDeferredNext t.region t.next items
IsNextFor (Collect number) t = IsResultAt t.deferred number × AreDeferredNext t.region t.next (RemovalItem number ∷ [])
IsNextFor (Ball ball) t = Unit {0}
IsNextFor Empty t = Unit {0}

-- a run has come to a goal; to a gate, by a cut to a node of the branch or by what looks at the world or changes it; to a result for a
-- findall of the branch; to a ball that no own entry takes; or to its end
abbrev pub StopsTask : RegionRun → ℕ → List NamedTerm → TaskView → TaskStop → Type 0
StopsTask r k named t Limit = StandsOnRun r k named t × HasGoalOnTop (task_stack named t)
StopsTask r k named t (Cut node) = StandsOnRun r k named t × (node < t.floor) × StandsAtGate r k (task_stack named t) (CutGate (node_of r.levels node))
StopsTask r k named t (World item g) = StandsOnRun r k named t × StandsAtGate r k (task_stack named t) WorldGate
StopsTask r k named t (Removal clause) = StandsOnRun r k named t × StandsAtGate r k (task_stack named t) WorldGate
StopsTask r k named t Answer = StandsOnRun r k named t × StandsAtGate r k (task_stack named t) WorldGate
StopsTask r k named t (Collect number) = StandsOnRun r k named t × IsResultAt t.deferred number × ComesToResult r k (task_stack named t)
StopsTask r k named t (Ball ball) = (top : TopGoal) × (b : Term) × FallsAt r k top b (Some ball)
StopsTask r k named t Empty = run_after r k ≡ Some []

abbrev pub IsLimit : TaskStop → Type 0
IsLimit Limit = Unit {0}
IsLimit (Cut node) = ⊥
IsLimit (World item g) = ⊥
IsLimit (Removal clause) = ⊥
IsLimit Answer = ⊥
IsLimit (Collect number) = ⊥
IsLimit (Ball ball) = ⊥
IsLimit Empty = ⊥

abbrev pub IsBall : TaskStop → Type 0
IsBall Limit = ⊥
IsBall (Cut node) = ⊥
IsBall (World item g) = ⊥
IsBall (Removal clause) = ⊥
IsBall Answer = ⊥
IsBall (Collect number) = ⊥
IsBall (Ball ball) = Unit {0}
IsBall Empty = ⊥

-- a ball or the end uses a region up; else it can go on
abbrev pub LeavesNext : TaskStop → Option Position → Type 0
LeavesNext Limit next = IsSome next
LeavesNext (Cut node) next = IsSome next
LeavesNext (World item g) next = IsSome next
LeavesNext (Removal clause) next = IsSome next
LeavesNext Answer next = IsSome next
LeavesNext (Collect number) next = IsSome next
LeavesNext (Ball ball) next = next ≡ None
LeavesNext Empty next = next ≡ None

-- what does not change while a task runs
pub record SameTask (old new : TaskView) : Type 0 where
  pub text : new.region.text ≡ old.region.text
  pub start : new.region.store.floor ≡ old.region.store.floor
  pub floor : new.floor ≡ old.floor
  pub variables : new.variables ≡ old.variables
  pub deferred : new.deferred ≡ old.deferred

-- a task that goes on takes at most so many inferences of its run, and all of them where it stops for no other cause, but not all of them
-- where one more throws a ball; one that is at its end stays there
pub record RunsTask (old new : TaskView) (limit : ℕ) (ran : TaskRan) : Type 0 where
  pub run : (r : RegionRun) (k : ℕ) (named : List NamedTerm) → IsSome old.next → StandsOnRun r k named old → StopsTask r (k + ran.taken) named new ran.stop
  pub within : ran.taken ≤ limit
  pub all : IsLimit ran.stop → ran.taken ≡ limit
  pub under : IsBall ran.stop → ran.taken < limit
  pub next : LeavesNext ran.stop new.next
  pub next_for : IsNextFor ran.stop new
  pub same : SameTask old new
  pub idle : old.next ≡ None → (ran.taken ≡ 0) × (ran.stop ≡ Empty) × (new ≡ old)
