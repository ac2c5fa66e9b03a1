use Rattle.run_model.proofs.HeightLemmas.{keeps_lower_part, run_held}
use Rattle.run_model.proofs.laws.runs.heights_fit.Goals as goal

pub returns : goal.returns
returns c = record { cut = keeps_lower_part; fit = run_held }
