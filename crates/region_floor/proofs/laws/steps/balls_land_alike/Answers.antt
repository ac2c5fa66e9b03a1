use Rattle.region_floor.proofs.OwnBallLemmas.{balls_are_private, balls_are_gates, balls_land}
use Rattle.region_floor.proofs.laws.steps.balls_land_alike.Goals as goal

pub returns : goal.returns
returns c = record { above = balls_are_private; below = balls_are_gates; either = balls_land }
