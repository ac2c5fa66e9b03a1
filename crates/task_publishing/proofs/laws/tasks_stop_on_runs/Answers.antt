use Rattle.task_publishing.proofs.TaskLemmas.{loaded_stop, stopped_run_on, stopped_have_own, stay_on_branches}
use Rattle.task_publishing.proofs.laws.tasks_stop_on_runs.Goals as goal

pub returns : goal.returns
returns c = record {
  loaded = loaded_stop;
  on = stopped_run_on;
  stay = stay_on_branches;
  own = stopped_have_own c.regions_run_privately.ensures.rest c.tops_are_own.ensures.top;
}
