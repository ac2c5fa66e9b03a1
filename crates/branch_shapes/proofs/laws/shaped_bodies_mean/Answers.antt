use Rattle.branch_shapes.proofs.ShapedBodyLemmas.{shaped_bodies_mean}
use Rattle.branch_shapes.proofs.ShapedRunLemmas.{shaped_runs_read}
use Rattle.branch_shapes.proofs.laws.shaped_bodies_mean.Goals as goal

pub returns : goal.returns
returns c = record { mean = shaped_bodies_mean; read = shaped_runs_read }
