use Rattle.std.proofs.Common.{length, map, sym, subst}
use Rattle.au_model.specs.Terms.Each.{Each}
use Rattle.region_control.specs.Ahead.{LiesAhead}
use Rattle.task_region.specs.DeferredItems.{item_of, IsDeferredOver}
use Rattle.task_region.specs.TaskViews.{view_of_task}
use Rattle.task_region.proofs.AheadLemmas.{goal_ahead, answer_ahead, end_ahead, none_ahead, may_take, goal_next, answer_next, removal_next, result_next, takes_of}
use Rattle.task_region.proofs.ahead.task_ahead.Goals as goal

pub returns-in-Goal : goal.returns-in-Goal
returns-in-Goal c old start h =
    goal_ahead (view_of_task old c.args.task.now start) c.args.region.now h.text h.start c.in-Goal.item c.in-Goal.place
    (subst (LiesAhead old c.args.region.now start) c.in-Goal.is h.ahead)

pub returns-in-Answer : goal.returns-in-Answer
returns-in-Answer c old start h =
    answer_ahead (view_of_task old c.args.task.now start) c.args.region.now h.text h.start c.in-Answer.position
    (subst (LiesAhead old c.args.region.now start) c.in-Answer.is h.ahead)

pub returns-in-QueryDone : goal.returns-in-QueryDone
returns-in-QueryDone c old start h =
    end_ahead (view_of_task old c.args.task.now start) c.args.region.now h.text h.start
    (subst (LiesAhead old c.args.region.now start) c.in-QueryDone.is h.ahead)

pub returns-in-AllDone : goal.returns-in-AllDone
returns-in-AllDone c old start h =
    none_ahead (view_of_task old c.args.task.now start) c.args.region.now h.text h.start
    (subst (LiesAhead old c.args.region.now start) c.in-AllDone.is h.ahead)

pub take_deferred-requires : goal.take_deferred-requires
take_deferred-requires c =
    let old = c.requires.0 in
    let start = c.requires.1 in
    let h = c.requires.2 in
    let t = view_of_task old c.args.task.now start in
    let l = subst (LiesAhead old c.args.region.now start) c.in-Removal.is h.ahead in
    record { scoped = subst (λ items. Each (IsDeferredOver c.args.region.now.store.now.next (length c.args.region.now.choices)) (map item_of items)) (sym c.deref.ensures.value) (may_take t c.args.region.now h.text h.start c.in-Removal.number c.in-Removal.field-1 l h.way.deferred c.ends_are_oldest.ensures.ends c.ends_are_oldest.ensures.marks h.way) }

pub returns-in-Goal-reached : goal.returns-in-Goal-reached
returns-in-Goal-reached c old start h =
    let t = view_of_task old c.args.task.now start in
    let l = subst (LiesAhead old c.args.region.now start) c.in-Removal.is h.ahead in
    goal_next t c.args.region.now h.text h.start c.in-Removal.number c.in-Removal.field-1 l h.way.deferred c.ends_are_oldest.ensures.ends c.ends_are_oldest.ensures.marks
    c.take_deferred.new.region c.in-Goal-reached.item c.in-Goal-reached.place
    (takes_of c.deref.result.now c.args.task.now.deferred.items c.deref.ensures.value c.args.region.now c.take_deferred.new.region c.in-Removal.number c.in_ok-reached.reached _ c.in-Goal-reached.is c.in_ok-reached.ensures.takes)

pub returns-in_ok-position-in-Answer-reached : goal.returns-in_ok-position-in-Answer-reached
returns-in_ok-position-in-Answer-reached c old start h =
    let t = view_of_task old c.args.task.now start in
    let l = subst (LiesAhead old c.args.region.now start) c.in-Removal.is h.ahead in
    answer_next t c.args.region.now h.text h.start c.in-Removal.number c.in-Removal.field-1 l h.way.deferred c.ends_are_oldest.ensures.ends c.ends_are_oldest.ensures.marks
    c.in-Answer-reached.number c.take_deferred.new.region c.leave_rest.new.region c.in_ok-position-in-Answer-reached.position
    (takes_of c.deref.result.now c.args.task.now.deferred.items c.deref.ensures.value c.args.region.now c.take_deferred.new.region c.in-Removal.number c.in_ok-reached.reached _ c.in-Answer-reached.is c.in_ok-reached.ensures.takes) c.in_ok-position-in-Answer-reached.ensures.leaves

pub returns-in_ok-position-in-Result : goal.returns-in_ok-position-in-Result
returns-in_ok-position-in-Result c old start h =
    let t = view_of_task old c.args.task.now start in
    let l = subst (LiesAhead old c.args.region.now start) c.in-Removal.is h.ahead in
    result_next t c.args.region.now h.text h.start c.in-Removal.number c.in-Removal.field-1 l h.way.deferred c.ends_are_oldest.ensures.ends c.ends_are_oldest.ensures.marks
    c.in-Result.number c.take_deferred.new.region c.leave_rest-in-Result.new.region c.in_ok-position-in-Result.position
    (takes_of c.deref.result.now c.args.task.now.deferred.items c.deref.ensures.value c.args.region.now c.take_deferred.new.region c.in-Removal.number c.in_ok-reached.reached _ c.in-Result.is c.in_ok-reached.ensures.takes) c.in_ok-position-in-Result.ensures.leaves

pub returns-in_ok-position-in-Removal-reached : goal.returns-in_ok-position-in-Removal-reached
returns-in_ok-position-in-Removal-reached c old start h =
    let t = view_of_task old c.args.task.now start in
    let l = subst (LiesAhead old c.args.region.now start) c.in-Removal.is h.ahead in
    removal_next t c.args.region.now h.text h.start c.in-Removal.number c.in-Removal.field-1 l h.way.deferred c.ends_are_oldest.ensures.ends c.ends_are_oldest.ensures.marks
    c.in-Removal-reached.number c.in-Removal-reached.clause c.take_deferred.new.region c.leave_rest-in-Removal-reached.new.region c.in_ok-position-in-Removal-reached.position
    (takes_of c.deref.result.now c.args.task.now.deferred.items c.deref.ensures.value c.args.region.now c.take_deferred.new.region c.in-Removal.number c.in_ok-reached.reached _ c.in-Removal-reached.is c.in_ok-reached.ensures.takes) c.in_ok-position-in-Removal-reached.ensures.leaves
