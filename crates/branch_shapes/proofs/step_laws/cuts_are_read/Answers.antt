use Rattle.branch_shapes.proofs.CutLemmas.{cuts_are_read}
use Rattle.branch_shapes.proofs.step_laws.cuts_are_read.Goals as goal

pub returns : goal.returns
returns c = cuts_are_read
