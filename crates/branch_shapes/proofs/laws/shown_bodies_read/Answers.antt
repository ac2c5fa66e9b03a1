use Rattle.branch_shapes.proofs.ShownBodyLemmas.{shown_bodies_read}
use Rattle.branch_shapes.proofs.laws.shown_bodies_read.Goals as goal

pub returns : goal.returns
returns c = shown_bodies_read
