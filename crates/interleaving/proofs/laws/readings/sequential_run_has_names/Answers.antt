use Rattle.interleaving.proofs.RunHeightLemmas.{named_run}
use Rattle.interleaving.proofs.laws.readings.sequential_run_has_names.Goals as goal

pub returns : goal.returns
returns c = named_run
