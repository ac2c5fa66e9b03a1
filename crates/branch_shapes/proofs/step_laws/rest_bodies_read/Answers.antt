use Rattle.branch_shapes.proofs.RestReadingLemmas.{rest_bodies_read}
use Rattle.branch_shapes.proofs.step_laws.rest_bodies_read.Goals as goal

pub returns : goal.returns
returns c = rest_bodies_read
