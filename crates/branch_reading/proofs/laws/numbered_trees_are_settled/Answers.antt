use Rattle.branch_reading.proofs.SettledLemmas.{numbered_trees_are_settled}
use Rattle.branch_reading.proofs.laws.numbered_trees_are_settled.Goals as goal

pub returns : goal.returns
returns c = numbered_trees_are_settled
