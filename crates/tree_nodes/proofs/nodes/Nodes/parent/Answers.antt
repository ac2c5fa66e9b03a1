use Rattle.std.proofs.Common.{sym}
use Rattle.tree_nodes.specs.RowViews.{row_view}
use Rattle.tree_nodes.proofs.FoldLemmas.{parent_above}
use Rattle.tree_nodes.proofs.nodes.Nodes.parent.Goals as goal

pub returns-clause-above : goal.returns-clause-above
returns-clause-above c = parent_above c.args.self.now c.args.node (row_view c.in-Some.row.now) c.live-live.ensures.sound (sym c.in-Some.ensures.row)
