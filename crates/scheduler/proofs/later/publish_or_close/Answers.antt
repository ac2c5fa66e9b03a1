use Rattle.std.proofs.Common.{subst}
use Rattle.std.proofs.lemmas.Result.{on_ok_weaker}
use Rattle.task_stops.specs.StopCauses.{StopsThereFor}
use Rattle.tree_model.specs.EventViews.{place_view}
use Rattle.scheduler.proofs.BackLemmas.{closes, publishes}
use Rattle.scheduler.proofs.TaskLemmas.{goes_on}
use Rattle.scheduler.proofs.later.publish_or_close.Goals as goal

pub collect_task-requires-clause-stops : goal.collect_task-requires-clause-stops
collect_task-requires-clause-stops g c =
    let v = c.args.tree.now in
    let s = c.args.stopped in
    subst (StopsThereFor v.nodes (place_view c.args.at) v.history.job.clauses s.taken s.task) c.in-Collect.is c.requires.stopped.stops

pub publish_task-requires-clause-stops : goal.publish_task-requires-clause-stops
publish_task-requires-clause-stops g c =
    let v = c.args.tree.now in
    let s = c.args.stopped in
    c.tasks_stop_for_causes.ensures.stops v.nodes (place_view c.args.at) v.history.job.clauses s.taken s.task s.stop c.requires.stopped.stops

pub publish_task-requires-in_default-clause-stops : goal.publish_task-requires-in_default-clause-stops
publish_task-requires-in_default-clause-stops g c =
    let v = c.args.tree.now in
    let s = c.args.stopped in
    c.tasks_stop_for_causes.ensures.stops v.nodes (place_view c.args.at) v.history.job.clauses s.taken s.task s.stop c.requires.stopped.stops

pub publish_task-requires-in_default-clause-going : goal.publish_task-requires-in_default-clause-going
publish_task-requires-in_default-clause-going g c =
    let s = c.args.stopped in
    goes_on s.stop s.task.next c.requires.stopped.going c.requires.no_ball c.in_default.not-Empty

pub close_task-requires-clause-over : goal.close_task-requires-clause-over
close_task-requires-clause-over g c =
    let v = c.args.tree.now in
    let s = c.args.stopped in
    record { task = s.task; stops = subst (StopsThereFor v.nodes (place_view c.args.at) v.history.job.clauses s.taken s.task) c.in-Empty.is c.requires.stopped.stops }

pub returns-in_default-clause-back : goal.returns-in_default-clause-back
returns-in_default-clause-back g c =
    on_ok_weaker c.publish_task-in_default.result
    (publishes c.args.tree.now.history c.publish_task-in_default.new.tree.history c.args.worker (place_view c.args.at) c.requires.going c.args.stopped.taken)
    c.publish_task-in_default.ensures.publishes

pub returns-in_ok-close_task-in-Empty-clause-back : goal.returns-in_ok-close_task-in-Empty-clause-back
returns-in_ok-close_task-in-Empty-clause-back g c =
    closes c.args.tree.now.history c.close_task.new.tree.history c.args.worker (place_view c.args.at) c.requires.going c.args.stopped.taken
    c.in_ok-close_task-in-Empty.ensures.closes
