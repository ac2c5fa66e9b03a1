use Rattle.branch_shapes.proofs.MeantRunLemmas.{meant_runs_show, meant_runs_fit, meant_runs_read}
use Rattle.branch_shapes.proofs.laws.meant_runs_read.Goals as goal

pub returns : goal.returns
returns c = record { show = meant_runs_show; fit = meant_runs_fit; read = meant_runs_read }
