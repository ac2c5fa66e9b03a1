use Rattle.task_stops.proofs.ReadableLemmas.{outs_can_land}
use Rattle.task_stops.proofs.landing_laws.outs_can_land_balls.Goals as goal

pub returns : goal.returns
returns c = outs_can_land c.numbered_trees_are_settled.ensures c.places_are_levels.ensures
