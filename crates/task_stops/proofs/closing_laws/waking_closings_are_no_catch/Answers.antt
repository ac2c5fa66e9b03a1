use Rattle.task_stops.proofs.FewerNodeLemmas.{waking_no_catch}
use Rattle.task_stops.proofs.closing_laws.waking_closings_are_no_catch.Goals as goal

pub returns : goal.returns
returns c = waking_no_catch
