use Rattle.task_world.proofs.ToldLemmas.{answers_are_told, removals_are_told}
use Rattle.task_world.proofs.laws.fronts_are_told.Goals as goal

pub returns : goal.returns
returns c = record { removal = removals_are_told; answer = answers_are_told }
