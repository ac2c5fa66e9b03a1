use Rattle.task_stops.proofs.FallenLemmas.{landings_read}
use Rattle.task_stops.proofs.landing_laws.landings_read.Goals as goal

pub returns : goal.returns
returns c = landings_read c.numbered_trees_are_settled.ensures (record { bind = c.settled_segments_bind.ensures.bind; empty = c.settled_segments_bind.ensures.empty; read = c.branches_read_bound.ensures.read })
