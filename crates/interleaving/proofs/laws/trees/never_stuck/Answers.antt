use Rattle.interleaving.proofs.UnchangedPlaceLemmas.{never_stuck}
use Rattle.interleaving.proofs.laws.trees.never_stuck.Goals as goal

pub returns : goal.returns
returns c = never_stuck
