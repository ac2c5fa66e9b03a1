-- An answer to which a task has come after some inferences.
use Rattle.std.proofs.Common.{◌≡◌, ℕ, Option, Some, None, IsSome, sym, ap, ◌∙◌, subst}
use Rattle.answered_tasks.specs.AnsweredTasks.{ComesOfAnswer, HasStoppedAtAnswer, IsGivenBackAsItWas}
use Rattle.effect_gate.specs.Effects.{world_meant}
use Rattle.effect_gate.specs.declared.world.World.{World as KeptWorld}
use Rattle.task_region.specs.TaskStops.{IsNextFor, LeavesNext}
use Rattle.task_region.specs.TaskViews.{TaskView}
use Rattle.task_region.specs.declared.running.TaskStop.{TaskStop}
use Rattle.task_region.specs.declared.running.TaskStop.TheVariants.{Answer}
use Rattle.task_stops.specs.StopCauses.{StopsThereFor}
use Rattle.region_split.specs.Texts.{TextView}
use Rattle.tree_core.specs.Histories.{History, TreeView, state_of}
use Rattle.tree_model.specs.Levels.{Place}
use Rattle.scheduler.specs.JobRuns.{IsJobRun}
use Rattle.scheduler.specs.StoppedTasks.{HasStoppedOut}
use Rattle.scheduler.specs.declared.job_run.JobRun.{JobRun}
use Rattle.scheduler.specs.declared.running.StoppedTask.{StoppedTask}
use Rattle.scheduler.proofs.RunLemmas.{run_moved}

-- it has stopped at that
module _ (text : TextView) (v : TreeView) (a : Place) (s : StoppedTask) (stopped : HasStoppedOut text v a s) (answer : s.stop ≡ Answer) where
  pub at_answer : HasStoppedAtAnswer v a s.taken s.task
  at_answer = record {
    stops = subst (StopsThereFor v.nodes a v.history.job.clauses s.taken s.task) answer stopped.stops;
    next = subst (λ (stop : TaskStop). IsNextFor stop s.task) answer stopped.next;
  }

  pub leaves_some : IsSome s.task.next
  leaves_some = subst (λ (stop : TaskStop). LeavesNext stop s.task.next) answer stopped.going

module _ (v0 v1 : TreeView) (w : ℕ) (a : Place) (k : ℕ) (task : TaskView) where
  -- whatever comes of it, the job is run with what its tree has
  pub answered_run : (left : Option TaskView) (run : JobRun) (world : KeptWorld) → ComesOfAnswer v0 v1 w a k task left → IsJobRun v0.history run
      → world.database.statics ≡ run.world.database.statics → world_meant world ≡ (state_of v1.history).world → IsJobRun v1.history (record run { world = world })
  answered_run None run world h j statics meant =
      run_moved v0.history v1.history run world run.asked j (ap (λ (x : History). x.job) h.answered.noted) statics meant j.asked (h.answered.queries ∙ j.left)
  answered_run (Some left) run world h j statics meant =
      run_moved v0.history v1.history run world run.asked j (ap (λ (x : TreeView). x.history.job) h.tree) statics meant j.asked
      (ap (λ (x : TreeView). (state_of x.history).queries) h.tree ∙ j.left)

  -- where the task is given back, all is as it was
  module _ (left : TaskView) (h : IsGivenBackAsItWas v0 v1 a k task left) where
    pub as_it_was : (P : TreeView → TaskView → Type 0) → P v0 task → P v1 left
    as_it_was P p = subst (λ (x : TaskView). P v1 x) (sym h.left_is) (subst (λ (x : TreeView). P x task) (sym h.tree) p)
