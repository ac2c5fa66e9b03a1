use Rattle.tree_nodes.specs.TreeTables.{NodesView}
use Rattle.tree_nodes.proofs.SkipLemmas.{skipped_kept}
use Rattle.tree_nodes.proofs.nodes.Nodes.skip.Goals as goal

pub invariant_of-self : goal.invariant_of-self
invariant_of-self c =
    let old : NodesView = record { rows = c.self.inside.table; first = c.self.inside.first; live = c.self.inside.live; spare = c.self.inside.spare } in
    skipped_kept old c.skip.new.self c.args.count c.self.inside.front.items c.skip.result c.skip.ensures.ok c.skip.ensures.err c.self.invariant
