use Rattle.task_stops.proofs.GivenLemmas.{results_are_given}
use Rattle.task_stops.proofs.end_laws.results_are_given.Goals as goal

pub returns : goal.returns
returns c = results_are_given
