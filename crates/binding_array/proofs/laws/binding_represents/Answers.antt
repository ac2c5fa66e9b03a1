use Rattle.binding_array.proofs.RepresentedLemmas.{binding_represents}
use Rattle.binding_array.proofs.laws.binding_represents.Goals as goal

pub returns : goal.returns
returns c = binding_represents
