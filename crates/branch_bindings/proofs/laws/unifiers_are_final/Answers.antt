use Rattle.branch_bindings.proofs.ExtendedUnifierLemmas.{unifiers_stand_for_older, unifiers_are_final}
use Rattle.branch_bindings.proofs.laws.unifiers_are_final.Goals as goal

pub returns : goal.returns
returns c = record { older = unifiers_stand_for_older; last = unifiers_are_final }
