-- What an alternative's private run has come to, by its task's.
use Rattle.std.proofs.Common.{◌≡◌, ℕ, Some, refl, sym, ap, ◌∙◌, subst}
use Rattle.run_model.specs.Machine.Entries.{Entry}
use Rattle.run_model.specs.Programs.Jobs.{Job}
use Rattle.region_floor.specs.RegionRuns.{RegionRun, run_after}
use Rattle.tree_model.specs.Floors.{with_heights}
use Rattle.tree_model.specs.LegalTrees.{IsLegalTree}
use Rattle.tree_model.specs.Legality.{run_is_empty, run_of, taken_at}
use Rattle.tree_model.specs.Levels.{Place, Spot, levels_of}
use Rattle.tree_model.specs.Nodes.{Pending}
use Rattle.tree_model.specs.PrivateRuns.{private_run}
use Rattle.tree_model.specs.TreeStates.{TreeState}
use Rattle.tree_core.specs.Histories.{TreeView, NodesStand, state_of}
use Rattle.task_region.specs.TaskLoads.{run_on_branch}
use Rattle.task_region.specs.TaskViews.{TaskView}
use Rattle.task_region.specs.declared.running.TaskStop.{TaskStop}
use Rattle.task_region.specs.declared.running.TaskStop.TheVariants.{Empty}
use Rattle.task_stops.specs.StopCauses.{HasStoppedFor, StopsThereFor}
use Rattle.task_publishing.proofs.JobLemmas.{job_of_state}
use Rattle.branch_shapes.proofs.OutLemmas.{IsOutAt, out_at}
use Rattle.task_stops.specs.EndLaws.{EndedRunsAreEmpty}

module _ (v : TreeView) (w k : ℕ) (a : Place) (stand : NodesStand v) (legal : IsLegalTree (state_of v.history)) (s : Spot)
    (taken : taken_at w a (state_of v.history) ≡ Some s) where
  abbrev t : TreeState
  t = state_of v.history

  abbrev job : Job
  job = v.history.job

  pub there : IsOutAt job v.nodes t w a s
  there = out_at job v.nodes t w a s stand.placed taken

  abbrev pub run_there : RegionRun
  run_there = run_on_branch t.job.clauses (levels_of s) job there.way

  pub run_is : run_of t s k ≡ run_after run_there k
  unfolding run_of
  run_is = ap (λ (e : Entry). private_run t.job.clauses (levels_of s) (with_heights (levels_of s) e) k) there.reads

  pub stopped : (task : TaskView) (stop : TaskStop) → StopsThereFor v.nodes a v.history.job.clauses k task stop
      → HasStoppedFor t.job.clauses (levels_of s) job there.way k task stop
  stopped task stop stops =
      subst (λ (j : Job). HasStoppedFor j.clauses (levels_of s) job there.way k task stop) (sym (job_of_state v.history))
      (stops job _ s.level s.above (Pending s.hold s.entry) there.way there.at there.table there.on)

pub ended_runs_are_empty : EndedRunsAreEmpty
ended_runs_are_empty v w k a stand legal over s taken =
    let h = stopped v w k a stand legal s taken over.task Empty over.stops in
    record { ends = ap run_is_empty (run_is v w k a stand legal s taken ∙ h.stops); credit = refl }
