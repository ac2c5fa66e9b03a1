use Rattle.task_stops.proofs.EndLemmas.{ended_runs_are_empty}
use Rattle.task_stops.proofs.end_laws.ended_runs_are_empty.Goals as goal

pub returns : goal.returns
returns c = ended_runs_are_empty
