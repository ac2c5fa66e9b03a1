use Rattle.std.proofs.Common.{sym, ap, ◌∙◌, subst}
use Rattle.answered_tasks.specs.AnsweredTasks.{OutAnswersAlone}
use Rattle.cell_store.specs.StoreView.{StoreView}
use Rattle.region_split.specs.Regions.{RegionView}
use Rattle.task_world.specs.FrontItems.{terms_named}
use Rattle.tree_core.specs.Histories.{state_of}
use Rattle.tree_model.specs.EventViews.{place_view}
use Rattle.answered_tasks.proofs.answering.answer_task.Goals as goal

pub answer_at_once-requires-clause-answers : goal.answer_at_once-requires-clause-answers
answer_at_once-requires-clause-answers g c =
    let v = c.args.tree.now in
    let a = place_view c.args.at in
    subst (λ (st : StoreView). OutAnswersAlone (terms_named st c.args.names.now) c.in-Some.catches c.args.worker a c.args.inferences (state_of v.history))
    (sym (c.store.ensures.store ∙ ap (λ (r : RegionView). r.store) c.into_region-region.ensures.region))
    (c.answered_tasks_run_alone.ensures v c.args.worker a c.args.inferences c.in-Some.catches c.args.task c.args.names.now c.keeps_promises.ensures.nodes
    c.stays_legal.ensures c.requires.stopped c.in-Some.ensures c.requires.names)
