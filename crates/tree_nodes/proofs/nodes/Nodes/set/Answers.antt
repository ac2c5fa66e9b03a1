use Rattle.tree_model.specs.EventViews.{place_view}
use Rattle.tree_nodes.specs.Rows.{cell_view}
use Rattle.tree_nodes.proofs.PutLemmas.{put_set}
use Rattle.tree_nodes.proofs.nodes.Nodes.set.Goals as goal

pub returns-clause-set : goal.returns-clause-set
returns-clause-set c =
    put_set c.args.self.now c.put.new.self (place_view c.args.at) (c.args.spent, cell_view c.args.state) c.put.ensures.put.state c.put.ensures.put.first c.requires.fits
