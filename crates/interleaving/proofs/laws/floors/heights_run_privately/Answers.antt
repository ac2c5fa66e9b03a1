use Rattle.interleaving.proofs.OwnRunLemmas.{own_runs}
use Rattle.interleaving.proofs.laws.floors.heights_run_privately.Goals as goal

pub returns : goal.returns
returns c = own_runs
