use Rattle.branch_shapes.proofs.ExtendedWayLemmas.{ways_are_extended, extended_ways_are_settled, branches_read_bound}
use Rattle.branch_shapes.proofs.laws.branches_read_bound.Goals as goal

pub returns : goal.returns
returns c = record { extended = ways_are_extended; settled = extended_ways_are_settled; read = branches_read_bound }
