use Rattle.tree_nodes.proofs.PutLemmas.{no_nodes_stand}
use Rattle.tree_nodes.proofs.nodes.Nodes.new.Goals as goal

pub invariant_of-result : goal.invariant_of-result
invariant_of-result c = rw (c.new.ensures, c.new-2.ensures.items) (record { tree = no_nodes_stand; led = tt })
