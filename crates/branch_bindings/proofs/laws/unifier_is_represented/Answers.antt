use Rattle.branch_bindings.proofs.CellEquationLemmas.{unifier_is_represented}
use Rattle.branch_bindings.proofs.laws.unifier_is_represented.Goals as goal

pub returns : goal.returns
returns c = unifier_is_represented
