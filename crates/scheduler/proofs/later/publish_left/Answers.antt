use Rattle.std.proofs.lemmas.Result.{on_ok_weaker}
use Rattle.task_region.specs.declared.running.TaskStop.TheVariants.{Answer}
use Rattle.tree_model.specs.EventViews.{place_view}
use Rattle.scheduler.proofs.BackLemmas.{publishes}
use Rattle.scheduler.proofs.later.publish_left.Goals as goal

pub publish_task-requires-clause-stops : goal.publish_task-requires-clause-stops
publish_task-requires-clause-stops g c =
    let v = c.args.tree.now in
    c.tasks_stop_for_causes.ensures.stops v.nodes (place_view c.args.at) v.history.job.clauses c.args.taken c.args.task Answer c.requires.stops

pub returns-clause-back : goal.returns-clause-back
returns-clause-back g c =
    on_ok_weaker c.publish_task.result
    (publishes c.args.tree.now.history c.publish_task.new.tree.history c.args.worker (place_view c.args.at) c.requires.going c.args.taken)
    c.publish_task.ensures.publishes
