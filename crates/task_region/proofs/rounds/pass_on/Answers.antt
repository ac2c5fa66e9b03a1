use Rattle.std.proofs.Common.{subst}
use Rattle.std.proofs.lemmas.Result.{IfOk-weaker}
use Rattle.task_region.specs.TaskViews.{view_of_task}
use Rattle.task_region.specs.TaskRounds.{LooksAhead}
use Rattle.task_region.proofs.AheadLemmas.{changed_to}
use Rattle.task_region.proofs.RunningLemmas.{goal_round, stop_round}
use Rattle.task_region.proofs.rounds.pass_on.Goals as goal

pub returns-in-Goal : goal.returns-in-Goal
returns-in-Goal c old start h =
    let t = view_of_task old c.args.task.now start in
    let r = c.task_ahead.new.region in
    let looks = subst (LooksAhead t (changed_to t r)) c.in-Goal.is (c.in_ok-ahead.ensures old start h) in
    IfOk-weaker c.take_goal.result _ _ (λ round takes. goal_round t r c.take_goal.new.region c.in-Goal.item c.in-Goal.place c.args.more round looks takes) c.take_goal.ensures

pub returns-in-Stops : goal.returns-in-Stops
returns-in-Stops c old start h =
    let t = view_of_task old c.args.task.now start in
    let r = c.task_ahead.new.region in
    stop_round t r c.in-Stops.stop c.in-Stops.next c.args.more (subst (LooksAhead t (changed_to t r)) c.in-Stops.is (c.in_ok-ahead.ensures old start h))
