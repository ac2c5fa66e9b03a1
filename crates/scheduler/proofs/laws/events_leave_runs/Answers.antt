use Rattle.scheduler.proofs.RunLemmas.{run_left}
use Rattle.scheduler.proofs.laws.events_leave_runs.Goals as goal

pub returns : goal.returns
returns c = run_left
