use Rattle.region_floor.proofs.RegionRunLemmas.{world_stops, halt_stops, cut_stops, ball_stops}
use Rattle.region_floor.proofs.laws.runs.region_stops_at_goals.Goals as goal

pub returns : goal.returns
returns c = record { world = world_stops; halt = halt_stops; cut = cut_stops; ball = ball_stops }
