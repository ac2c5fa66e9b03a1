use Rattle.interleaving.proofs.OnceHistoryLemmas.{once}
use Rattle.interleaving.proofs.laws.trees.handed_out_once.Goals as goal

pub returns : goal.returns
returns c = once
