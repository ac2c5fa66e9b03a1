use Rattle.branch_shapes.proofs.SettledSegmentLemmas.{settled_segments_bind, bound_segments_are_settled, empty_segments_lead, segments_join}
use Rattle.branch_shapes.proofs.laws.settled_segments_bind.Goals as goal

pub returns : goal.returns
returns c = record { bind = settled_segments_bind; settled = bound_segments_are_settled; empty = empty_segments_lead; join = segments_join }
