use Rattle.run_model.proofs.RunLemmas.{ended_run_stays}
use Rattle.run_model.proofs.laws.runs.ended_run_stays.Goals as goal

pub returns : goal.returns
returns c = ended_run_stays
