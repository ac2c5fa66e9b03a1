use Rattle.branch_shapes.proofs.GroupedRunLemmas.{grouped_runs_read}
use Rattle.branch_shapes.proofs.laws.grouped_runs_read.Goals as goal

pub returns : goal.returns
returns c = grouped_runs_read
