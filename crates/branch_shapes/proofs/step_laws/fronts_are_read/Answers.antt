use Rattle.branch_shapes.proofs.FrontLemmas.{fronts_are_read, once_leaves}
use Rattle.branch_shapes.proofs.step_laws.fronts_are_read.Goals as goal

pub returns : goal.returns
returns c = record { read = fronts_are_read; once = once_leaves }
