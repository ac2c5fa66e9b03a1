-- A task that has stopped on the private run of its alternative, and for what cause.
use Rattle.std.specs.Prelude.{◌≡◌, ℕ, ◌+◌, List, ◌∷◌, IsSome}
use Rattle.run_model.specs.Programs.Clauses.{Clause}
use Rattle.run_model.specs.Programs.Jobs.{Job}
use Rattle.region_split.specs.Texts.{TextView}
use Rattle.tree_model.specs.Levels.{Level, Place, plug, place_at}
use Rattle.tree_model.specs.Nodes.{Status}
use Rattle.tree_nodes.specs.Bodies.{Branching, Reading}
use Rattle.tree_nodes.specs.TreeTables.{NodesView, IsTableOf, IsWayTo}
use Rattle.branch_reading.specs.Readings.{named_of, query_on}
use Rattle.task_region.specs.TaskLoads.{run_on_branch, LoadsTask}
use Rattle.task_region.specs.TaskViews.{TaskView}
use Rattle.task_region.specs.TaskStops.{LeavesNext, StopsTask, RunsTask}
use Rattle.task_region.specs.declared.running.TaskRan.{TaskRan}
use Rattle.task_region.specs.declared.running.TaskStop.{TaskStop}
use Rattle.task_publishing.specs.TaskRuns.{StopsThere}

-- after so many inferences a task has stopped on the run of a branch for this cause
pub record HasStoppedFor (clauses : List Clause) (levels : List Level) (job : Job) (way : Branching) (k : ℕ) (t : TaskView) (cause : TaskStop) : Type 0 where
  pub stops : StopsTask (run_on_branch clauses levels job way) k (named_of (query_on job way)) t cause
  pub next : LeavesNext cause t.next

-- of each tree for which the nodes stand, it is the run of this alternative, whatever the job is
abbrev pub StopsThereFor : NodesView → Place → List Clause → ℕ → TaskView → TaskStop → Type 0
StopsThereFor nodes a clauses k t cause =
    (job : Job) (read : Reading) (v : Level) (up : List Level) (was : Status) (way : Branching) → place_at v ≡ a
    → IsTableOf nodes read (plug (v ∷ up) was) → IsWayTo nodes.rows (v ∷ up) way → HasStoppedFor clauses (v ∷ up) job way k t cause

-- a task that was loaded and run stops there for that cause, and so does one that is run on
abbrev pub LoadedTasksStopFor : Type 0
LoadedTasksStopFor = (nodes : NodesView) (a : Place) (text : TextView) (old new : TaskView) (limit : ℕ) (ran : TaskRan) → LoadsTask nodes a text old
    → RunsTask old new limit ran → StopsThereFor nodes a text.clauses ran.taken new ran.stop

abbrev pub StoppedTasksRunOnFor : Type 0
StoppedTasksRunOnFor = (nodes : NodesView) (a : Place) (clauses : List Clause) (k : ℕ) (old new : TaskView) (limit : ℕ) (ran : TaskRan) → IsSome old.next
    → StopsThere nodes a clauses k old → RunsTask old new limit ran → StopsThereFor nodes a clauses (k + ran.taken) new ran.stop

-- so it has stopped
abbrev pub CausesAreStops : Type 0
CausesAreStops = (nodes : NodesView) (a : Place) (clauses : List Clause) (k : ℕ) (t : TaskView) (cause : TaskStop) → StopsThereFor nodes a clauses k t cause
    → StopsThere nodes a clauses k t
