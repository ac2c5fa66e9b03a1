use Rattle.task_stops.proofs.StopGateLemmas.{stops_are_gates, cut_stops_are_cuts}
use Rattle.task_stops.proofs.gate_laws.stops_are_gates.Goals as goal

pub returns : goal.returns
returns c = record { gates = stops_are_gates c.alternatives_start_regions.ensures.outer; cuts = cut_stops_are_cuts }
