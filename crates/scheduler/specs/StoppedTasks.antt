-- Where the task of an alternative that is out has stopped.
use Rattle.std.specs.Prelude.{◌≡◌, ◌≤◌, ◌<◌, ◌-◌, ℕ, suc, Bool, true, false, cond, List}
use Rattle.region_split.specs.Texts.{TextView}
use Rattle.task_region.specs.KeptRegions.{IsOnWay}
use Rattle.task_region.specs.TaskLoads.{StartsOnBranch}
use Rattle.task_stops.specs.StopCauses.{StopsThereFor}
use Rattle.task_region.specs.TaskStops.{IsBall, IsLimit, IsNextFor, LeavesNext}
use Rattle.task_region.specs.declared.running.TaskStop.{TaskStop}
use Rattle.task_region.specs.declared.running.TaskStop.TheVariants.{Limit, Cut, World, Removal, Answer, Collect, Ball, Empty}
use Rattle.scheduler.specs.declared.running.OutStop.{OutStop}
use Rattle.scheduler.specs.declared.running.OutStop.TheVariants.{Ends, Stops}
use Rattle.scheduler.specs.declared.running.StoppedTask.{StoppedTask}
use Rattle.task_world.specs.FrontsTold.{StopsAtFront}
use Rattle.tree_core.specs.Histories.{TreeView, state_of}
use Rattle.tree_model.specs.Levels.{Place}
use Rattle.task_world.specs.OutTasks.{EndsQueryAt}

-- it has stopped on the private run of its alternative, and before any inference at the front of it
pub record HasStoppedOut (text : TextView) (v : TreeView) (a : Place) (s : StoppedTask) : Type 0 where
  pub stops : StopsThereFor v.nodes a v.history.job.clauses s.taken s.task s.stop
  pub front : s.taken ≡ 0 → StopsAtFront v.nodes a v.history.job.clauses s.task s.stop
  pub start : StartsOnBranch v.nodes a s.task
  pub way : IsOnWay v.nodes.rows a text s.numbers.items s.task
  pub clauses_are : s.task.region.text.clauses ≡ v.history.job.clauses
  pub going : LeavesNext s.stop s.task.next
  pub next : IsNextFor s.stop s.task

-- it has stopped before or at a limit, at which it has taken some inferences, and before a ball that comes at the limit; its text has names of
-- these kinds
pub record RunsUnder (text : TextView) (v : TreeView) (a : Place) (names : List (List ℕ)) (limit : ℕ) (s : StoppedTask) : Type 0 where
  pub stopped : HasStoppedOut text v a s
  pub names_are : names ≡ s.task.region.text.code.names
  pub some : IsLimit s.stop → 1 ≤ s.taken
  pub under : IsBall s.stop → s.taken < limit

abbrev pub is_limit : TaskStop → Bool
is_limit Limit = true
is_limit (Cut height) = false
is_limit (World item g) = false
is_limit (Removal clause) = false
is_limit Answer = false
is_limit (Collect number) = false
is_limit (Ball ball) = false
is_limit Empty = false

-- how many inferences may yet be taken, where a limit alone has stopped a task
abbrev pub inferences_left : ℕ → StoppedTask → ℕ
inferences_left limit s = cond (is_limit s.stop) (suc (limit - s.taken)) 0

-- it was stopped by something else, or later
pub record RunsFurther (taken limit : ℕ) (s : StoppedTask) : Type 0 where
  pub later : is_limit s.stop ≡ true → taken < s.taken
  pub within : s.taken ≤ limit

-- what is out ends a query, or its task has stopped so
abbrev pub RunsOut : TextView → TreeView → ℕ → Place → ℕ → OutStop → Type 0
RunsOut text v w a limit (Ends ball) = EndsQueryAt w a ball (state_of v.history)
RunsOut text v w a limit (Stops s) = HasStoppedOut text v a s × (IsLimit s.stop → 1 ≤ s.taken) × (IsBall s.stop → s.taken < limit)

-- after how many inferences a ball is met
abbrev pub before_ball : TaskStop → ℕ → ℕ
before_ball Limit k = 0
before_ball (Cut height) k = 0
before_ball (World item g) k = 0
before_ball (Removal clause) k = 0
before_ball Answer k = 0
before_ball (Collect number) k = 0
before_ball (Ball ball) k = k
before_ball Empty k = 0

abbrev pub run_before_ball : OutStop → ℕ
run_before_ball (Ends ball) = 0
run_before_ball (Stops s) = before_ball s.stop s.taken

-- a ball is met before any inference, and so many were taken only where they are some
abbrev pub CanBeServed : TextView → TreeView → ℕ → Place → OutStop → Type 0
CanBeServed text v w a (Ends ball) = EndsQueryAt w a ball (state_of v.history)
CanBeServed text v w a (Stops s) = HasStoppedOut text v a s × (IsLimit s.stop → 1 ≤ s.taken) × (IsBall s.stop → s.taken ≡ 0)
