use Rattle.run_model.proofs.RunLemmas.{is_stopped}
use Rattle.run_model.proofs.laws.runs.budget_stops.Goals as goal

pub returns : goal.returns
returns c = is_stopped
