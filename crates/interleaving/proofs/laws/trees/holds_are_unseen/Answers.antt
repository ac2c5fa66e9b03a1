use Rattle.interleaving.proofs.StepsTakenLemmas.{hold_list}
use Rattle.interleaving.proofs.laws.trees.holds_are_unseen.Goals as goal

pub returns : goal.returns
returns c = hold_list
