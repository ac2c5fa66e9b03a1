use Rattle.interleaving.proofs.SequentialHeightLemmas.{seq_height}
use Rattle.interleaving.proofs.laws.readings.sequential_run_has_no_credit.Goals as goal

pub returns : goal.returns
returns c = seq_height
