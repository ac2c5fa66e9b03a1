use Rattle.interleaving.proofs.RunHeightLemmas.{heights_run, names_are_free, alike_counts}
use Rattle.interleaving.proofs.laws.readings.names_run_as_heights.Goals as goal

pub returns : goal.returns
returns c = record { same = heights_run; free = names_are_free; counts = alike_counts }
