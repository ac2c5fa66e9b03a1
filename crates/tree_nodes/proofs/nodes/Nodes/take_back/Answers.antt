use Rattle.tree_model.specs.EventViews.{place_view}
use Rattle.tree_nodes.proofs.TakeBackLemmas.{takes_back}
use Rattle.tree_nodes.proofs.nodes.Nodes.take_back.Goals as goal

pub returns-clause-entry : goal.returns-clause-entry
returns-clause-entry c =
    takes_back c.args.self.now c.put.new.self (place_view c.args.at) c.args.worker c.args.spent c.put.ensures.put.state c.put.ensures.put.first
