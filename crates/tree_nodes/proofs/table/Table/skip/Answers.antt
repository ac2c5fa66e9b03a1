use Rattle.tree_nodes.proofs.SkipLemmas.{skipped_held}
use Rattle.tree_nodes.proofs.table.Table.skip.Goals as goal

pub invariant_of-self : goal.invariant_of-self
invariant_of-self c =
    skipped_held c.self.inside.held c.self.inside.slots.items c.push_gone.new.slots.items c.args.count c.push_gone.result c.push_gone.ensures.ok c.push_gone.ensures.err c.self.invariant
