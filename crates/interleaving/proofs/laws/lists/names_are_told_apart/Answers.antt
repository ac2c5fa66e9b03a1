use Rattle.interleaving.proofs.RootLemmas.{are_distinguished}
use Rattle.interleaving.proofs.laws.lists.names_are_told_apart.Goals as goal

pub returns : goal.returns
returns c = are_distinguished
