use Rattle.task_world.proofs.LoadedLemmas.{loaded_stop_at_front}
use Rattle.task_world.proofs.laws.tasks_stop_at_front.Goals as goal

pub returns : goal.returns
returns c = loaded_stop_at_front
