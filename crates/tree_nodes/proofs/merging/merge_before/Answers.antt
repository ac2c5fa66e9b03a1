use Rattle.tree_nodes.proofs.BatchLemmas.{merged_before}
use Rattle.tree_nodes.proofs.merging.merge_before.Goals as goal

pub returns : goal.returns
returns c = merged_before c.args.all.now.items c.pop.new.self.items c.pop-2.new.self.items c.push.new.self.items c.in-Some.left c.in-Some-pop.further
    c.in_ok-with-2.field-0 c.args.last.now c.in_ok-share.field-0 c.in-Some.ensures.items c.in-Some-pop.ensures.items c.in_ok-push.ensures.items
    c.in_ok-with-2.ensures c.in_ok-share.ensures
