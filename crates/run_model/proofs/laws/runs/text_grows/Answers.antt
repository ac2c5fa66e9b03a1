use Rattle.run_model.proofs.RunLemmas.{text_grows}
use Rattle.run_model.proofs.laws.runs.text_grows.Goals as goal

pub returns : goal.returns
returns c = text_grows
