use Rattle.task_stops.proofs.AllLandingLemmas.{balls_land}
use Rattle.task_stops.proofs.landing_laws.balls_land.Goals as goal

pub returns : goal.returns
returns c = balls_land c.numbered_trees_are_settled.ensures
