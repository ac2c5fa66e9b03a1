use Rattle.std.proofs.Common.{sym, subst}
use Rattle.tree_model.specs.EventViews.{place_view}
use Rattle.tree_nodes.specs.TreeTables.{NodesView}
use Rattle.tree_closing.specs.Closings.{HasSleeper}
use Rattle.tree_core.specs.Histories.{state_of}
use Rattle.public_tree.specs.Opening.{opening_body}
use Rattle.task_stops.specs.WokenBodies.{IsGivenFor}
use Rattle.task_stops.proofs.CloseLemmas.{cell_out, ends_as}
use Rattle.task_stops.proofs.closing.close_out.Goals as goal

pub rest_of-requires : goal.rest_of-requires
rest_of-requires g c =
    let v = c.args.tree.now in
    cell_out v.history.job v.nodes (state_of v.history) c.args.worker (place_view c.args.at) c.keeps_promises.ensures.nodes.placed c.stays_legal.ensures c.requires.out

pub woken_body-requires : goal.woken_body-requires
woken_body-requires g c =
    let closing = c.in_ok-closing.closing in
    record {
      sleeper = subst (λ (n : NodesView). HasSleeper closing.beside n.rows (place_view closing.end)) (sym c.nodes.ensures) c.in_ok-closing.ensures.sleeper;
    }

pub close-requires-clause-body : goal.close-requires-clause-body
close-requires-clause-body g c = c.in_ok-woken.ensures.given

pub close-requires-clause-ends : goal.close-requires-clause-ends
close-requires-clause-ends g c =
    let v = c.args.tree.now in
    let closing = c.in_ok-closing.closing in
    let body = opening_body c.in_ok-woken.woken in
    ends_as v.history.job v.nodes (state_of v.history) c.args.worker (place_view c.args.at) c.keeps_promises.ensures.nodes.placed c.stays_legal.ensures
    c.requires.out c.args.inferences c.args.ending.0 c.args.ending.1 closing c.requires.ends c.in_ok-closing.ensures.rests c.in_ok-closing.ensures.sleeper
    c.waking_closings_are_no_catch.ensures body (subst (λ (n : NodesView). IsGivenFor n closing body) c.nodes.ensures c.in_ok-woken.ensures)
