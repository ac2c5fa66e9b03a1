use Rattle.task_region.proofs.EndLemmas.{ends_are_floor}
use Rattle.task_region.proofs.laws.ends_are_the_floor.Goals as goal

pub returns : goal.returns
returns c = ends_are_floor
