use Rattle.interleaving.proofs.HistoryTheorems.{prefix}
use Rattle.interleaving.proofs.laws.histories.histories_keep_prefixes.Goals as goal

pub returns : goal.returns
returns c = prefix
