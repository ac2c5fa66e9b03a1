use Rattle.region_floor.proofs.OwnRestLemmas.{rests_privately}
use Rattle.region_floor.proofs.laws.steps.free_steps_are_private.Goals as goal

pub returns : goal.returns
returns c = rests_privately
