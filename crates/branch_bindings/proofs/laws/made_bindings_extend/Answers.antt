use Rattle.branch_bindings.proofs.WrittenBindingLemmas.{made_bindings_extend}
use Rattle.branch_bindings.proofs.laws.made_bindings_extend.Goals as goal

pub returns : goal.returns
returns c = made_bindings_extend
