use Rattle.std.proofs.Common.{ap, ◌∙◌, take}
use Rattle.tree_model.specs.Credits.{Credit}
use Rattle.tree_model.specs.EventViews.{place_view}
use Rattle.tree_nodes.specs.Gathering.{with_left}
use Rattle.tree_nodes.specs.Rows.{row_of_node, alternatives_at}
use Rattle.prune_ops.proofs.FallLemmas.{leaves_after}
use Rattle.prune_ops.proofs.landing.rise.Goals as goal

pub returns : goal.returns
returns c =
    let nodes = c.args.nodes.now in
    let b = place_view c.args.at in
    leaves_after nodes b c.spent.result c.args.sum.now c.leave_records.new.sum c.add_left_of.new.sum c.leave_records.ensures c.spent.ensures
    (c.in_ok-add_left_of.ensures ∙ ap (λ (x : Credit). with_left (take b.index (alternatives_at (row_of_node nodes.rows b.node))) x) c.spend.ensures)
