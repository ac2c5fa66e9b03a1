-- A task that has stopped on the private run of its alternative, and the nodes that are made of what it has left.
use Rattle.std.specs.Prelude.{◌≡◌, ℕ, ◌+◌, List, ◌∷◌, IsSome}
use Rattle.run_model.specs.Programs.Clauses.{Clause}
use Rattle.run_model.specs.Programs.Jobs.{Job}
use Rattle.region_split.specs.Texts.{TextView}
use Rattle.tree_model.specs.Events.{Nodes}
use Rattle.tree_model.specs.Levels.{Level, Place, plug, place_at}
use Rattle.tree_model.specs.Nodes.{Status}
use Rattle.tree_nodes.specs.Bodies.{Branching, Reading}
use Rattle.tree_nodes.specs.Rows.{cell_at}
use Rattle.tree_nodes.specs.TreeTables.{NodesView, IsTableOf, IsWayTo, Stand}
use Rattle.tree_core.specs.Histories.{History, while_going}
use Rattle.branch_reading.specs.Readings.{named_of, query_on}
use Rattle.task_region.specs.TaskLoads.{run_on_branch, LoadsTask, StartsOnBranch}
use Rattle.task_region.specs.TaskViews.{TaskView}
use Rattle.task_region.specs.TaskStops.{LeavesNext, StopsTask, RunsTask}
use Rattle.task_region.specs.declared.running.TaskRan.{TaskRan}
use Rattle.task_region.specs.declared.running.TaskStop.{TaskStop}
use Rattle.task_publishing.specs.OwnBodies.{HasSomeOwn}

-- after so many inferences a task has stopped on the run of a branch
pub record HasStopped (clauses : List Clause) (levels : List Level) (job : Job) (way : Branching) (k : ℕ) (t : TaskView) : Type 0 where
  pub stop : TaskStop
  pub stops : StopsTask (run_on_branch clauses levels job way) k (named_of (query_on job way)) t stop
  pub next : LeavesNext stop t.next

-- of each tree for which the nodes stand, it is the run of this alternative, whatever the job is
abbrev pub StopsThere : NodesView → Place → List Clause → ℕ → TaskView → Type 0
StopsThere nodes a clauses k t =
    (job : Job) (read : Reading) (v : Level) (up : List Level) (was : Status) (way : Branching) → place_at v ≡ a
    → IsTableOf nodes read (plug (v ∷ up) was) → IsWayTo nodes.rows (v ∷ up) way → HasStopped clauses (v ∷ up) job way k t

-- an alternative became nodes after so many inferences, where the tree has neither ended nor been stopped
pub record Publishes (old new : History) (w : ℕ) (a : Place) (k : ℕ) : Type 0 where
  pub sizes : List ℕ
  pub noted : new ≡ while_going (Nodes w a k sizes) old

-- a task that was loaded and run stops there, and so does one that is run on
abbrev pub LoadedTasksStop : Type 0
LoadedTasksStop = (nodes : NodesView) (a : Place) (text : TextView) (old new : TaskView) (limit : ℕ) (ran : TaskRan) → LoadsTask nodes a text old
    → RunsTask old new limit ran → StopsThere nodes a text.clauses ran.taken new

abbrev pub StoppedTasksRunOn : Type 0
StoppedTasksRunOn = (nodes : NodesView) (a : Place) (clauses : List Clause) (k : ℕ) (old new : TaskView) (limit : ℕ) (ran : TaskRan) → IsSome old.next
    → StopsThere nodes a clauses k old → RunsTask old new limit ran → StopsThere nodes a clauses (k + ran.taken) new

-- a task that is run stays over what is bound on its branch
abbrev pub TasksStayOnBranches : Type 0
TasksStayOnBranches = (nodes : NodesView) (a : Place) (old new : TaskView) (limit : ℕ) (ran : TaskRan) → StartsOnBranch nodes a old → RunsTask old new limit ran
    → StartsOnBranch nodes a new

-- where it can go on, it stands for own entries
abbrev pub StoppedTasksHaveOwn : Type 0
StoppedTasksHaveOwn = (nodes : NodesView) (a : Place) (clauses : List Clause) (k : ℕ) (t : TaskView) → Stand nodes → IsSome (cell_at nodes.rows a) → IsSome t.next
    → StopsThere nodes a clauses k t → HasSomeOwn t
