use Rattle.region_floor.proofs.RegionRunLemmas.{control_stands, solutions_stand, ball_stands}
use Rattle.region_floor.proofs.laws.runs.region_goes_on.Goals as goal

pub returns : goal.returns
returns c = record { control = control_stands; solutions = solutions_stand; ball = ball_stands }
