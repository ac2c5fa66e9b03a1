use Rattle.branch_shapes.proofs.GroupShapeLemmas.{groups_fit}
use Rattle.branch_shapes.proofs.laws.groups_fit_nodes.Goals as goal

pub returns : goal.returns
returns c = groups_fit
