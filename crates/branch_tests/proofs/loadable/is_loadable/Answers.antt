use Rattle.std.proofs.Common.{◌≡◌, Some, None}
use Rattle.std.specs.Option.{option_map}
use Rattle.tree_model.specs.EventViews.{place_view}
use Rattle.tree_nodes.specs.Bodies.{body_view}
use Rattle.tree_nodes.specs.Rows.{node_parent, row_of_node}
use Rattle.branch_tests.proofs.LoadableLemmas.{loads_first, told}
use Rattle.branch_tests.proofs.loadable.is_loadable.Goals as goal

pub returns-in-None : goal.returns-in-None
returns-in-None c =
    let rows = c.args.nodes.now.rows in
    let here : option_map (λ r. r.body) (row_of_node rows c.args.at.node) ≡ Some (body_view c.deref.result.now) = cc (c.body-body.ensures.body, c.deref.ensures) in
    let top : node_parent rows c.args.at.node ≡ Some None = c.in-None.ensures.parent in
    told c.is_query_loadable.result (loads_first rows (place_view c.args.at) (body_view c.deref.result.now) here top) c.is_query_loadable.ensures
