use Rattle.std.proofs.Common.{subst}
use Rattle.std.proofs.lemmas.Result.{on_ok_weaker}
use Rattle.answered_tasks.specs.AnsweredTasks.{ComesOfAnswer}
use Rattle.task_region.specs.TaskLoads.{StartsOnBranch}
use Rattle.task_region.specs.TaskViews.{TaskView}
use Rattle.task_region.specs.declared.running.TaskStop.TheVariants.{Answer}
use Rattle.task_stops.specs.StopCauses.{StopsThereFor}
use Rattle.std.specs.Arc.{arc_value}
use Rattle.tree_core.specs.Histories.{TreeView}
use Rattle.tree_model.specs.EventViews.{place_view}
use Rattle.scheduler.proofs.LaterLemmas.{answered_run, as_it_was, at_answer, leaves_some}
use Rattle.scheduler.proofs.RunLemmas.{run_alone}
use Rattle.scheduler.proofs.later.answer_or_publish.Goals as goal

pub answer_at_once-requires-clause-stopped : goal.answer_at_once-requires-clause-stopped
answer_at_once-requires-clause-stopped g c = at_answer (arc_value c.args.run.now.text) c.args.tree.now (place_view c.args.at) c.args.stopped c.requires.stopped c.requires.answer

pub answer_at_once-requires-clause-left : goal.answer_at_once-requires-clause-left
answer_at_once-requires-clause-left g c = leaves_some (arc_value c.args.run.now.text) c.args.tree.now (place_view c.args.at) c.args.stopped c.requires.stopped c.requires.answer

pub returns-in-None-clause-run : goal.returns-in-None-clause-run
returns-in-None-clause-run g c =
    let s = c.args.stopped in
    answered_run c.args.tree.now c.answer_at_once.new.tree c.args.worker (place_view c.args.at) s.taken s.task c.in_ok-left.left c.args.run.now
    c.answer_at_once.new.world c.in_ok-left.ensures.comes c.requires.run c.answer_at_once.ensures.statics c.in_ok-left.ensures.world

pub publish_left-requires-clause-stops : goal.publish_left-requires-clause-stops
publish_left-requires-clause-stops g c =
    let s = c.args.stopped in
    let a = place_view c.args.at in
    let v0 = c.args.tree.now in
    let v1 = c.answer_at_once.new.tree in
    as_it_was v0 v1 c.args.worker a s.taken s.task c.in-Some.task
    (subst (ComesOfAnswer v0 v1 c.args.worker a s.taken s.task) c.in-Some.is c.in_ok-left.ensures.comes)
    (λ (x : TreeView) (t : TaskView). StopsThereFor x.nodes a x.history.job.clauses s.taken t Answer) (at_answer (arc_value c.args.run.now.text) v0 a s c.requires.stopped c.requires.answer).stops

pub publish_left-requires-clause-start : goal.publish_left-requires-clause-start
publish_left-requires-clause-start g c =
    let s = c.args.stopped in
    let a = place_view c.args.at in
    let v0 = c.args.tree.now in
    let v1 = c.answer_at_once.new.tree in
    as_it_was v0 v1 c.args.worker a s.taken s.task c.in-Some.task
    (subst (ComesOfAnswer v0 v1 c.args.worker a s.taken s.task) c.in-Some.is c.in_ok-left.ensures.comes)
    (λ (x : TreeView) (t : TaskView). StartsOnBranch x.nodes a t) c.requires.stopped.start

pub returns-clause-run : goal.returns-clause-run
returns-clause-run g c =
    let s = c.args.stopped in
    let a = place_view c.args.at in
    let v0 = c.args.tree.now in
    let v1 = c.answer_at_once.new.tree in
    on_ok_weaker c.publish_left.result
    (run_alone v1.history c.publish_left.new.tree.history a _
    (answered_run v0 v1 c.args.worker a s.taken s.task c.in_ok-left.left c.args.run.now c.answer_at_once.new.world c.in_ok-left.ensures.comes c.requires.run
    c.answer_at_once.ensures.statics c.in_ok-left.ensures.world))
    c.publish_left.ensures.back
