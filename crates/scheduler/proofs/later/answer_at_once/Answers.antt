use Rattle.std.proofs.Common.{sym, subst}
use Rattle.std.specs.Prelude.{IsSome}
use Rattle.tree_model.specs.EventViews.{place_view}
use Rattle.tree_nodes.specs.Rows.{row_of_node}
use Rattle.tree_nodes.specs.TreeTables.{NodesView}
use Rattle.scheduler.specs.QueryNames.{AreOpenedOn}
use Rattle.scheduler.proofs.NameLemmas.{its_names, row_out}
use Rattle.scheduler.proofs.later.answer_at_once.Goals as goal

pub opened_on-requires : goal.opened_on-requires
opened_on-requires g c =
    let v = c.args.tree.now in
    let a = place_view c.args.at in
    subst (λ (n : NodesView). IsSome (row_of_node n.rows a.node)) (sym c.nodes.ensures)
    (row_out v c.args.worker a c.keeps_promises.ensures.nodes c.requires.out)

pub answer_task-requires-clause-names : goal.answer_task-requires-clause-names
answer_task-requires-clause-names g c =
    let v = c.args.tree.now in
    let a = place_view c.args.at in
    let opened = subst (λ (n : NodesView). AreOpenedOn n.rows a c.in_ok-count.count) c.nodes.ensures c.in_ok-count.ensures in
    its_names v c.args.worker a c.names_of-names.result.now c.args.queries.now c.in_ok-count.count c.keeps_promises.ensures.nodes c.places_are_levels.ensures
    opened c.requires.queries c.names_of-names.ensures
