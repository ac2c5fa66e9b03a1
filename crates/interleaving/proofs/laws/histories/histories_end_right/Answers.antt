use Rattle.interleaving.proofs.HistoryTheorems.{end}
use Rattle.interleaving.proofs.laws.histories.histories_end_right.Goals as goal

pub returns : goal.returns
returns c = end
