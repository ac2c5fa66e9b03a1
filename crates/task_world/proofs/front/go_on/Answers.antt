use Rattle.std.proofs.Common.{sym, subst}
use Rattle.std.specs.Prelude.{IsSome}
use Rattle.std.specs.Arc.{arc_value}
use Rattle.tree_model.specs.EventViews.{place_view}
use Rattle.tree_nodes.specs.Bodies.{body_view}
use Rattle.tree_nodes.specs.Rows.{cell_at}
use Rattle.tree_nodes.specs.TreeTables.{NodesView}
use Rattle.tree_core.specs.Histories.{state_of}
use Rattle.task_world.specs.FrontSteps.{LeavesBehind}
use Rattle.task_world.proofs.FrontLemmas.{goes_on_as, is_there}
use Rattle.task_world.proofs.front.go_on.Goals as goal

pub body_behind-requires : goal.body_behind-requires
body_behind-requires g c =
    let v = c.args.tree.now in
    let a = place_view c.args.at in
    subst (λ (n : NodesView). IsSome (cell_at n.rows a)) (sym c.nodes.ensures)
    (is_there v.history.job v.nodes (state_of v.history) c.args.worker a c.keeps_promises.ensures.nodes.placed c.requires.out)

pub go_on_at_front-requires-clause-goes_on : goal.go_on_at_front-requires-clause-goes_on
go_on_at_front-requires-clause-goes_on g c =
    let v = c.args.tree.now in
    let a = place_view c.args.at in
    let body = body_view (arc_value c.in_ok-body.body) in
    let left = subst (λ (n : NodesView). LeavesBehind n.rows a body) c.nodes.ensures c.in_ok-body.ensures.left in
    goes_on_as v.history.job v.nodes (state_of v.history) c.args.worker a c.keeps_promises.ensures.nodes.placed c.stays_legal.ensures
    c.numbered_trees_are_settled.ensures c.floor_items_stay.ensures.scoped c.fronts_are_read.ensures.read body left c.requires.leaves
