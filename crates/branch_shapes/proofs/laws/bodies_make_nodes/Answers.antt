use Rattle.branch_shapes.proofs.GroupBodyLemmas.{bodies_are_placed, bodies_are_sized, bodies_are_whole}
use Rattle.branch_shapes.proofs.laws.bodies_make_nodes.Goals as goal

pub returns : goal.returns
returns c = record { placed = bodies_are_placed; sized = bodies_are_sized; whole = bodies_are_whole }
