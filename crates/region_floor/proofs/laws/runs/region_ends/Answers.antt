use Rattle.region_floor.proofs.RegionRunLemmas.{nothing_stops, end_is_empty, none_is_empty, no_ball_is_left}
use Rattle.region_floor.proofs.laws.runs.region_ends.Goals as goal

pub returns : goal.returns
returns c = record { nothing = nothing_stops; end = end_is_empty; none = none_is_empty; ball = no_ball_is_left }
