use Rattle.branch_bindings.proofs.SameUnifierLemmas.{unifier_is_made}
use Rattle.branch_bindings.proofs.laws.unifier_is_made.Goals as goal

pub returns : goal.returns
returns c = unifier_is_made
