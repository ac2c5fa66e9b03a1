use Rattle.interleaving.proofs.ListChangeLemmas.{expansion, becomes}
use Rattle.interleaving.proofs.laws.lists.private_runs_expand.Goals as goal

pub returns : goal.returns
returns c = record { alone = expansion; private = becomes }
