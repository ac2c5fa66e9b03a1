use Rattle.std.proofs.Common.{◌≡◌, true, sym, subst}
use Rattle.std.specs.Prelude.{is_some, IsSome, Some}
use Rattle.std.specs.Arc.{arc_value}
use Rattle.tree_model.specs.EventViews.{place_view}
use Rattle.tree_model.specs.Events.{Prune}
use Rattle.tree_nodes.specs.Bodies.{body_view}
use Rattle.tree_nodes.specs.Rows.{row_of_node}
use Rattle.tree_nodes.specs.TreeTables.{NodesView}
use Rattle.tree_core.specs.Histories.{state_of}
use Rattle.branch_shapes.specs.RestBodies.{IsRestBody, items_behind}
use Rattle.task_region.specs.PlacesUp.{items_at_place, number_left}
use Rattle.task_stops.specs.FrontCuts.{scope_in_front}
use Rattle.task_stops.proofs.FrontCutLemmas.{row_out, front_out, cuts_out}
use Rattle.task_stops.proofs.UntakenLemmas.{kept_untaken}
use Rattle.task_stops.proofs.cuts.cut_task.Goals as goal

pub scope_at-scope-requires-clause-there : goal.scope_at-scope-requires-clause-there
scope_at-scope-requires-clause-there g c =
    let v = c.args.tree.now in
    let a = place_view c.args.at in
    subst (λ (n : NodesView). IsSome (row_of_node n.rows a.node)) (sym c.nodes-nodes.ensures)
    (row_out v.history.job v.nodes (state_of v.history) c.args.worker a c.keeps_promises.ensures.nodes.placed c.stays_legal.ensures c.requires.out)

pub scope_at-scope-requires-clause-goal : goal.scope_at-scope-requires-clause-goal
scope_at-scope-requires-clause-goal g c =
    let v = c.args.tree.now in
    let a = place_view c.args.at in
    subst (λ (n : NodesView). is_some (scope_in_front (items_at_place n.rows a)) ≡ true) (sym c.nodes-nodes.ensures)
    (front_out v.history.job v.nodes (state_of v.history) c.args.worker a c.keeps_promises.ensures.nodes.placed c.stays_legal.ensures
    c.numbered_trees_are_settled.ensures c.floor_items_stay.ensures.scoped c.requires.cut c.requires.out)

pub body_behind-requires-clause-there : goal.body_behind-requires-clause-there
body_behind-requires-clause-there g c =
    let v = c.args.tree.now in
    let a = place_view c.args.at in
    subst (λ (n : NodesView). IsSome (row_of_node n.rows a.node)) (sym c.nodes-nodes.ensures)
    (row_out v.history.job v.nodes (state_of v.history) c.args.worker a c.keeps_promises.ensures.nodes.placed c.stays_legal.ensures c.requires.out)

pub body_behind-requires-clause-goal : goal.body_behind-requires-clause-goal
body_behind-requires-clause-goal g c =
    let v = c.args.tree.now in
    let a = place_view c.args.at in
    subst (λ (n : NodesView). is_some (scope_in_front (items_at_place n.rows a)) ≡ true) (sym c.nodes-nodes.ensures)
    (front_out v.history.job v.nodes (state_of v.history) c.args.worker a c.keeps_promises.ensures.nodes.placed c.stays_legal.ensures
    c.numbered_trees_are_settled.ensures c.floor_items_stay.ensures.scoped c.requires.cut c.requires.out)

pub cut-requires-clause-cuts : goal.cut-requires-clause-cuts
cut-requires-clause-cuts g c =
    let v = c.args.tree.now in
    let a = place_view c.args.at in
    let scope = c.scope_at-scope.result in
    let body = body_view (arc_value c.in_ok-body.body) in
    cuts_out v.history.job v.nodes (state_of v.history) c.args.worker a c.keeps_promises.ensures.nodes.placed c.stays_legal.ensures
    c.numbered_trees_are_settled.ensures c.floor_items_stay.ensures.scoped c.requires.cut scope body
    (subst (λ (n : NodesView). scope_in_front (items_at_place n.rows a) ≡ Some scope) c.nodes-nodes.ensures c.scope_at-scope.ensures)
    (subst (λ (n : NodesView). IsRestBody (items_behind (items_at_place n.rows a)) (number_left n.rows a) body) c.nodes-nodes.ensures c.in_ok-body.ensures.rest)
    c.cuts_are_read.ensures

pub returns-clause-kept : goal.returns-clause-kept
returns-clause-kept g c =
    kept_untaken c.args.tree.now.history c.cut.new.self.history (Prune c.args.worker (place_view c.args.at)) c.cut.result c.cut.ensures.answer c.cut.ensures.cut
