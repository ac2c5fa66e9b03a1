use Rattle.interleaving.proofs.UnchangedPlaceLemmas.{no_pruned_effect}
use Rattle.interleaving.proofs.laws.trees.no_pruned_effect.Goals as goal

pub returns : goal.returns
returns c = no_pruned_effect
