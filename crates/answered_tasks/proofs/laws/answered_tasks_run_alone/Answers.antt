use Rattle.answered_tasks.proofs.RunLemmas.{answered_run_alone}
use Rattle.answered_tasks.proofs.laws.answered_tasks_run_alone.Goals as goal

pub returns : goal.returns
returns c = answered_run_alone
