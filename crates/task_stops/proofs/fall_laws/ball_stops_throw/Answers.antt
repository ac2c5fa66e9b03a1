use Rattle.task_stops.proofs.ThrownBallLemmas.{ball_stops_throw}
use Rattle.task_stops.proofs.fall_laws.ball_stops_throw.Goals as goal

pub returns : goal.returns
returns c = ball_stops_throw c.stops_are_gates.ensures.gates
