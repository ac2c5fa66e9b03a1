use Rattle.hand_out_laws.proofs.StopLemmas.{only_stops}
use Rattle.hand_out_laws.proofs.laws.only_stops_stop.Goals as goal

pub returns : goal.returns
returns c = only_stops
