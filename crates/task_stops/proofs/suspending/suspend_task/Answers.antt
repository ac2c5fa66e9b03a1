use Rattle.std.proofs.Common.{◌≡◌, true, sym, ap, ◌∙◌, subst}
use Rattle.std.specs.Prelude.{is_some, IsSome}
use Rattle.tree_model.specs.EventViews.{place_view}
use Rattle.tree_model.specs.Events.{Suspend}
use Rattle.tree_nodes.specs.Rows.{gate_view, row_of_node}
use Rattle.tree_nodes.specs.TreeTables.{NodesView}
use Rattle.tree_core.specs.Histories.{state_of, while_going}
use Rattle.task_region.specs.PlacesUp.{items_at_place}
use Rattle.task_stops.specs.FrontCuts.{IsGateFor, scope_in_front}
use Rattle.task_stops.specs.StopGates.{IsCutStop}
use Rattle.task_stops.proofs.FrontCutLemmas.{row_out}
use Rattle.task_stops.proofs.SuspendLemmas.{front_of_cut, gate_of_front, not_frozen}
use Rattle.task_stops.proofs.suspending.suspend_task.Goals as goal

pub gate_at-gate-requires-clause-there : goal.gate_at-gate-requires-clause-there
gate_at-gate-requires-clause-there g c =
    let v = c.args.tree.now in
    let a = place_view c.args.at in
    subst (λ (n : NodesView). IsSome (row_of_node n.rows a.node)) (sym c.nodes.ensures)
    (row_out v.history.job v.nodes (state_of v.history) c.args.worker a c.keeps_promises.ensures.nodes.placed c.stays_legal.ensures c.requires.out)

pub gate_at-gate-requires-clause-goal : goal.gate_at-gate-requires-clause-goal
gate_at-gate-requires-clause-goal g c =
    let v = c.args.tree.now in
    let a = place_view c.args.at in
    subst (λ (n : NodesView). IsCutStop c.args.stop.now → is_some (scope_in_front (items_at_place n.rows a)) ≡ true) (sym c.nodes.ensures)
    (front_of_cut v.history.job v.nodes (state_of v.history) c.args.worker a c.keeps_promises.ensures.nodes.placed c.stays_legal.ensures
    c.numbered_trees_are_settled.ensures c.floor_items_stay.ensures.scoped c.args.stop.now c.requires.gate c.requires.out)

pub suspend-requires-clause-gate : goal.suspend-requires-clause-gate
suspend-requires-clause-gate g c =
    let v = c.args.tree.now in
    let a = place_view c.args.at in
    gate_of_front v.history.job v.nodes (state_of v.history) c.args.worker a c.keeps_promises.ensures.nodes.placed c.stays_legal.ensures
    c.numbered_trees_are_settled.ensures c.floor_items_stay.ensures.scoped c.args.stop.now (gate_view c.gate_at-gate.result) c.requires.gate
    (subst (λ (n : NodesView). IsGateFor c.args.stop.now (scope_in_front (items_at_place n.rows a)) (gate_view c.gate_at-gate.result)) c.nodes.ensures c.gate_at-gate.ensures)

pub returns : goal.returns
returns g c =
    let v = c.args.tree.now in
    let a = place_view c.args.at in
    c.suspend.ensures.suspends
    ∙ ap (λ frozen. while_going (Suspend c.args.worker a frozen) v.history)
    (not_frozen c.args.stop.now _ (gate_view c.gate_at-gate.result) c.gate_at-gate.ensures)
