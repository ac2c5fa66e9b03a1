-- One round of a task: what lies ahead of it, and one goal that is taken.
use Rattle.std.specs.Prelude.{◌≡◌, ◌+◌, ℕ, Bool, true, false, ◌<◌, ◌≤◌, List, length, Option}
use Rattle.au_model.specs.Terms.Each.{Each}
use Rattle.au_model.specs.Terms.Named.{NamedTerm}
use Rattle.region_split.specs.QueryEnds.{AreEndsOldest}
use Rattle.region_split.specs.Regions.{RegionView}
use Rattle.region_split.specs.ClauseTrials.{IsOptionalPosition}
use Rattle.region_split.specs.declared.frame.FrameItem.{FrameItem}
use Rattle.region_split.specs.declared.frame.Position.{Position}
use Rattle.region_control.specs.Ahead.{IsGoalThere, LiesAhead}
use Rattle.region_control.specs.declared.ahead.Ahead.{Ahead}
use Rattle.region_control.specs.declared.control.GoalPlace.{GoalPlace}
use Rattle.region_control.specs.declared.replies.AfterGoal.{AfterGoal}
use Rattle.region_run.specs.Inferences.{InfersItem}
use Rattle.region_floor.specs.RegionRuns.{RegionRun, StandsAfter}
use Rattle.task_region.specs.CutGoals.{IsCutItem}
use Rattle.task_region.specs.DeferredItems.{IsDeferredOver}
use Rattle.task_region.specs.TaskViews.{TaskView, goal_stack}
use Rattle.task_region.specs.TaskStandings.{IsOwnRun, StandsOnRun, IsUnderWay}
use Rattle.task_region.specs.TaskStops.{IsBall, IsLimit, IsNextFor, LeavesNext, SameTask, StopsTask}
use Rattle.task_region.specs.declared.running.TaskRan.{TaskRan}
use Rattle.task_region.specs.declared.ahead.TaskAhead.{TaskAhead}
use Rattle.task_region.specs.declared.ahead.TaskAhead.TheVariants as ahead
use Rattle.task_region.specs.declared.rounds.TaskRound.{TaskRound}
use Rattle.task_region.specs.declared.rounds.TaskRound.TheVariants.{GoesOn, Stops}
use Rattle.task_region.specs.declared.running.TaskStop.{TaskStop}

-- where it stops, whether it can go on there, and what is next
abbrev pub IsStopThere : TaskView → TaskStop → Option Position → Type 0
IsStopThere t stop next = IsOptionalPosition t.region (length t.region.choices) next × LeavesNext stop next × IsNextFor stop (record t { next = next })

-- a goal is next, or the run stops
abbrev pub AheadStands : RegionRun → ℕ → List NamedTerm → TaskView → TaskAhead → Type 0
AheadStands r k named t (ahead.Goal item g) = StandsAfter r k (goal_stack named t.deferred t.region item g)
AheadStands r k named t (ahead.Stops stop next) = StopsTask r k named (record t { next = next }) stop

abbrev pub IsAheadThere : TaskView → TaskAhead → Type 0
IsAheadThere t (ahead.Goal item g) = IsGoalThere t.region item g
IsAheadThere t (ahead.Stops stop next) = IsStopThere t stop next × (IsLimit stop → ⊥) × (IsBall stop → ⊥)

-- it was looked how a task goes on
pub record HasLooked (t : TaskView) (new : RegionView) (found : Ahead) : Type 0 where
  pub way : IsUnderWay t
  pub ahead : LiesAhead t.region new t.next found
  pub text : new.text ≡ t.region.text
  pub start : new.store.floor ≡ t.region.store.floor

pub record LooksAhead (old new : TaskView) (a : TaskAhead) : Type 0 where
  pub stands : (r : RegionRun) (k : ℕ) (named : List NamedTerm) → StandsOnRun r k named old → AheadStands r k named new a
  pub there : IsAheadThere new a
  pub same : SameTask old new

-- one inference was taken, or the run stops
abbrev pub RoundStands : RegionRun → ℕ → List NamedTerm → TaskView → TaskRound → Type 0
RoundStands r k named t (GoesOn next) = StandsOnRun r (k + 1) named (record t { next = next })
RoundStands r k named t (Stops stop next) = StopsTask r k named (record t { next = next }) stop

-- an inference, as one that throws a ball, only where one more may be taken, and a limit only where none may
abbrev pub IsRoundThere : TaskView → Bool → TaskRound → Type 0
IsRoundThere t more (GoesOn next) = IsOptionalPosition t.region (length t.region.choices) next × (more ≡ true)
IsRoundThere t more (Stops stop next) = IsStopThere t stop next × (IsLimit stop → more ≡ false) × (IsBall stop → more ≡ true)

-- a goal of a task was taken, which is no cut to its floor
pub record TakesOwnGoal (t : TaskView) (new : RegionView) (item : FrameItem) (g : GoalPlace) (after : AfterGoal) : Type 0 where
  pub there : IsGoalThere t.region item g
  pub infers : InfersItem t.region new item g after
  pub uncut : g.cut < t.floor → IsCutItem t.region.store item → ⊥
  pub deferred : Each (IsDeferredOver t.variables t.floor) t.deferred
  pub ends : AreEndsOldest t.region.choices
  pub marks : length t.region.store.marks ≡ length t.region.choices
  pub text : new.text ≡ t.region.text
  pub start : new.store.floor ≡ t.region.store.floor

-- from a goal
pub record TakesGoalNext (old new : TaskView) (item : FrameItem) (g : GoalPlace) (more : Bool) (round : TaskRound) : Type 0 where
  pub stands : (r : RegionRun) (k : ℕ) (named : List NamedTerm) → IsOwnRun r named old → StandsAfter r k (goal_stack named old.deferred old.region item g)
      → RoundStands r k named new round
  pub there : IsRoundThere new more round
  pub same : SameTask old new

pub record PassesRound (old new : TaskView) (more : Bool) (round : TaskRound) : Type 0 where
  pub stands : (r : RegionRun) (k : ℕ) (named : List NamedTerm) → StandsOnRun r k named old → RoundStands r k named new round
  pub there : IsRoundThere new more round
  pub same : SameTask old new

-- a task that goes on at a position, up to where it stops
pub record RunsOn (old new : TaskView) (limit : ℕ) (ran : TaskRan) : Type 0 where
  pub run : (r : RegionRun) (k : ℕ) (named : List NamedTerm) → StandsOnRun r k named old → StopsTask r (k + ran.taken) named new ran.stop
  pub within : ran.taken ≤ limit
  pub all : IsLimit ran.stop → ran.taken ≡ limit
  pub under : IsBall ran.stop → ran.taken < limit
  pub there : IsStopThere new ran.stop new.next
  pub same : SameTask old new
