use Rattle.std.proofs.Common.{sym, ap, ◌∙◌, subst}
use Rattle.std.specs.Prelude.{IsSome}
use Rattle.cell_store.specs.StoreView.{StoreView}
use Rattle.region_split.specs.Regions.{RegionView}
use Rattle.task_world.specs.FrontItems.{IsAnswerNext, terms_named}
use Rattle.tree_core.specs.Histories.{state_of}
use Rattle.tree_model.specs.EventViews.{place_view}
use Rattle.tree_nodes.specs.Rows.{row_of_node}
use Rattle.tree_nodes.specs.TreeTables.{NodesView}
use Rattle.scheduler.specs.QueryNames.{AreOpenedOn}
use Rattle.scheduler.proofs.NameLemmas.{its_names, row_out}
use Rattle.scheduler.proofs.taking.answer_step.Goals as goal

pub opened_on-requires : goal.opened_on-requires
opened_on-requires g c =
    let v = c.args.tree.now in
    let a = place_view c.args.at in
    subst (λ (n : NodesView). IsSome (row_of_node n.rows a.node)) (sym c.nodes.ensures)
    (row_out v c.args.worker a c.keeps_promises.ensures.nodes c.requires.out)

pub take_answer-requires-clause-answer : goal.take_answer-requires-clause-answer
take_answer-requires-clause-answer g c =
    let v = c.args.tree.now in
    let a = place_view c.args.at in
    let t = state_of v.history in
    let names = c.names_of-names.result.now in
    let opened = subst (λ (n : NodesView). AreOpenedOn n.rows a c.in_ok-count.count) c.nodes.ensures c.in_ok-count.ensures in
    let are = its_names v c.args.worker a names c.args.queries.now c.in_ok-count.count c.keeps_promises.ensures.nodes c.places_are_levels.ensures opened
    c.requires.queries c.names_of-names.ensures in
    subst (λ (st : StoreView). IsAnswerNext (terms_named st names) c.args.worker a t)
    (sym (c.store.ensures.store ∙ ap (λ (r : RegionView). r.store) c.into_region-region.ensures.region))
    (c.fronts_are_told.ensures.answer v.history.job v.nodes t c.args.worker a v.history.job.clauses c.args.task names
    (record { placed = c.keeps_promises.ensures.nodes.placed; legal = c.stays_legal.ensures }) c.requires.stops are)
