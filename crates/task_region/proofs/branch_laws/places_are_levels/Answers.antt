use Rattle.task_region.proofs.PlaceUpLemmas.{places_are_levels}
use Rattle.task_region.proofs.branch_laws.places_are_levels.Goals as goal

pub returns : goal.returns
returns c = places_are_levels
