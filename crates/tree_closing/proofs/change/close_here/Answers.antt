use Rattle.tree_model.specs.EventViews.{place_view}
use Rattle.tree_nodes.specs.Rows.{credit_view}
use Rattle.tree_closing.proofs.ChangeLemmas.{closes_here}
use Rattle.tree_closing.proofs.change.close_here.Goals as goal

pub returns-clause-closed : goal.returns-clause-closed
returns-clause-closed c = closes_here c.args.nodes.now _ (place_view c.args.at) (credit_view c.args.credit) c.spent-spent.result c.spent-spent.ensures c.set.ensures.set
