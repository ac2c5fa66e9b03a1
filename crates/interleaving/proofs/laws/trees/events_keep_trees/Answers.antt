use Rattle.interleaving.proofs.LegalTreeLemmas.{events_preserve, histories_preserve}
use Rattle.interleaving.proofs.laws.trees.events_keep_trees.Goals as goal

pub returns : goal.returns
returns c = record { event = events_preserve; history = histories_preserve }
