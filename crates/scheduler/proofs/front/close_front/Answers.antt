use Rattle.std.proofs.Common.{subst}
use Rattle.public_tree.specs.Opening.{opening_body}
use Rattle.task_stops.specs.WokenBodies.{IsGivenFor}
use Rattle.tree_model.specs.EventViews.{place_view}
use Rattle.tree_nodes.specs.TreeTables.{NodesView}
use Rattle.scheduler.proofs.CloseLemmas.{closed, closes_as}
use Rattle.scheduler.proofs.front.close_front.Goals as goal

pub close_at_front-requires-clause-ends : goal.close_at_front-requires-clause-ends
close_at_front-requires-clause-ends g c =
    let body = opening_body c.in_ok-woken.woken in
    closes_as c.args.tree.now c.args.worker (place_view c.args.at) c.args.closing c.requires.out c.requires.may c.keeps_promises.ensures.nodes
    c.stays_legal.ensures c.waking_closings_are_no_catch.ensures body
    (subst (λ (n : NodesView). IsGivenFor n c.args.closing body) c.nodes.ensures c.in_ok-woken.ensures)

pub returns-clause-closes : goal.returns-clause-closes
returns-clause-closes g c =
    closed c.args.tree.now c.args.worker (place_view c.args.at) c.args.closing c.requires.out c.requires.may c.close_at_front.new.self.history
    c.in_ok-close_at_front.ensures.noted
