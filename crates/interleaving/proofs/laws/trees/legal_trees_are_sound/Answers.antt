use Rattle.interleaving.proofs.LegalLemmas.{legal_sound}
use Rattle.interleaving.proofs.laws.trees.legal_trees_are_sound.Goals as goal

pub returns : goal.returns
returns c = legal_sound
