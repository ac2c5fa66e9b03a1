use Rattle.run_model.proofs.NumberingLemmas.{run_numbered}
use Rattle.run_model.proofs.laws.runs.variables_are_numbered.Goals as goal

pub returns : goal.returns
returns c = run_numbered
