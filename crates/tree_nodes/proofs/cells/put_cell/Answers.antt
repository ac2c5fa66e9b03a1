use Rattle.tree_model.specs.EventViews.{place_view}
use Rattle.tree_nodes.specs.Siblings.{alternative_view}
use Rattle.tree_nodes.proofs.StayingLemmas.{made_then, made_replaced}
use Rattle.tree_nodes.proofs.cells.put_cell.Goals as goal

pub returns-clause-made : goal.returns-clause-made
returns-clause-made c =
    let between = c.replace-below.new.self in
    made_then c.args.table.now between c.drop_replaced.new.table
    (made_replaced c.args.table.now between (place_view c.args.at) (alternative_view c.args.alternative) c.replace-below.result c.replace-below.ensures)
    c.drop_replaced.ensures.made
