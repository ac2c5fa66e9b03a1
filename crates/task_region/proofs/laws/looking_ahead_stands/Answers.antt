use Rattle.task_region.proofs.EngineLemmas.{looking_stands}
use Rattle.task_region.proofs.laws.looking_ahead_stands.Goals as goal

pub returns : goal.returns
returns c = looking_stands
