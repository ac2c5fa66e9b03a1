use Rattle.std.proofs.Common.{None, sym, subst}
use Rattle.std.specs.Prelude.{IfOk}
use Rattle.cell_store.specs.StoreView.{StoreView}
use Rattle.task_region.specs.CutGoals.{IsCutItem}
use Rattle.task_region.specs.TaskViews.{view_of_task}
use Rattle.task_region.specs.TaskRounds.{TakesGoalNext, TakesOwnGoal}
use Rattle.task_region.proofs.AheadLemmas.{changed_to}
use Rattle.task_region.proofs.RoundLemmas.{limit_stops, cut_stops, told_apart}
use Rattle.task_region.proofs.CompoundRoundLemmas.{asked_there}
use Rattle.task_region.proofs.rounds.take_goal.Goals as goal
use Rattle.task_region.proofs.rounds.take_goal.Goals.{In_ok-after}

pub returns-then-cuts_to_floor : goal.returns-then-cuts_to_floor
returns-then-cuts_to_floor c =
    let t = view_of_task c.args.region.now c.args.task.now None in
    let cut = c.cuts_to_floor.ensures.0 c.if-cuts_to_floor.true in
    cut_stops t c.args.goal.0 c.args.goal.1 c.requires.there c.requires.deferred c.ends_are_oldest.ensures.ends c.ends_are_oldest.ensures.marks
    c.leave_goal.new.region c.in_ok-position.position c.in_ok-position.ensures c.args.more cut.0
    (subst (λ (st : StoreView). IsCutItem st c.args.goal.0) c.store.ensures.store cut.1)

pub returns-then-not-more : goal.returns-then-not-more
returns-then-not-more c =
    let t = view_of_task c.args.region.now c.args.task.now None in
    limit_stops t c.args.goal.0 c.args.goal.1 c.requires.there c.requires.deferred c.ends_are_oldest.ensures.ends c.ends_are_oldest.ensures.marks
    c.leave_goal-then-not-more.new.region c.in_ok-position-2.position c.in_ok-position-2.ensures c.args.more c.if-not-more.true

-- the goal is the task's own
owned : (c : In_ok-after) → TakesOwnGoal (view_of_task c.args.region.now c.args.task.now None) c.infer.new.region c.args.goal.0 c.args.goal.1 c.in_ok-after.after
owned c = record {
  there = c.requires.there;
  infers = c.in_ok-after.ensures.infers;
  uncut = λ low cut.
      told_apart c.cuts_to_floor.result (c.cuts_to_floor.ensures.1 (low, subst (λ (st : StoreView). IsCutItem st c.args.goal.0) (sym c.store.ensures.store) cut)) c.if-cuts_to_floor.false;
  deferred = c.requires.deferred;
  ends = c.ends_are_oldest.ensures.ends;
  marks = c.ends_are_oldest.ensures.marks;
  text = c.in_ok-after.ensures.text;
  start = c.in_ok-after.ensures.floor;
}

pub after_goal-requires : goal.after_goal-requires
after_goal-requires c =
    asked_there (view_of_task c.args.region.now c.args.task.now None) c.infer.new.region c.args.goal.0 c.args.goal.1 c.in_ok-after.after (owned (goal.at.after_goal-requires c).In_ok-after)

pub returns : goal.returns
returns c =
    let t = view_of_task c.args.region.now c.args.task.now None in
    subst (λ more. IfOk c.after_goal.result (TakesGoalNext t (changed_to t c.after_goal.new.region) c.args.goal.0 c.args.goal.1 more)) (sym c.if-not-more.false)
    (c.after_goal.ensures t (owned (goal.at.returns c).In_ok-after))
