use Rattle.std.proofs.Common.{◌≡◌, Some, None}
use Rattle.std.specs.Option.{option_map}
use Rattle.tree_model.specs.EventViews.{place_view}
use Rattle.tree_nodes.specs.Bodies.{body_view}
use Rattle.tree_nodes.specs.Rows.{node_parent, row_of_node}
use Rattle.branch_tests.proofs.LoadableLemmas.{loads_second, told}
use Rattle.branch_tests.proofs.loadable.is_loadable_below.Goals as goal

pub returns-in-None : goal.returns-in-None
returns-in-None c =
    let rows = c.args.nodes.now.rows in
    let here : option_map (λ r. r.body) (row_of_node rows c.args.at.node) ≡ Some (body_view c.deref.result.now) = cc (c.body-body.ensures.body, c.deref.ensures) in
    let there : option_map (λ r. r.body) (row_of_node rows c.args.above.node) ≡ Some (body_view c.deref-in-None.result.now)
    = cc (c.body-upper.ensures.body, c.deref-in-None.ensures) in
    let top : node_parent rows c.args.above.node ≡ Some None = c.in-None.ensures.parent in
    told c.is_choice_loadable.result
    (loads_second rows (place_view c.args.at) (place_view c.args.above) (body_view c.deref.result.now) (body_view c.deref-in-None.result.now) here there
    c.requires.below top)
    c.is_choice_loadable.ensures
