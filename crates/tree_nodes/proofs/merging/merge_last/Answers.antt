use Rattle.tree_nodes.proofs.BatchLemmas.{merged_last}
use Rattle.tree_nodes.proofs.merging.merge_last.Goals as goal

pub returns : goal.returns
returns c = merged_last c.args.all.now.items c.pop.new.self.items c.in-Some.left c.args.last.now c.in_ok-with.field-0 c.in-Some.ensures.items c.in_ok-with.ensures
