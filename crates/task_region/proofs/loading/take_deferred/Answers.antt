use Rattle.std.proofs.Common.{◌+◌, ◌≤◌, length, map, sym, subst}
use Rattle.au_term.specs.Term.{var_bound}
use Rattle.au_model.specs.Terms.Each.{Each}
use Rattle.run_model.specs.Machine.Items.{GoalItem}
use Rattle.task_region.specs.DeferredItems.{item_of, IsDeferredOver, FindsGoals}
use Rattle.task_region.specs.declared.deferred.DeferredItem.TheVariants.{Goal, Collect, Removal}
use Rattle.task_region.proofs.FoundLemmas.{item_found, no_item, item_holds, goals_bound}
use Rattle.task_region.proofs.DeferredLemmas.{takes_answer, takes_removal, takes_result, takes_goals}
use Rattle.task_region.proofs.loading.take_deferred.Goals as goal

pub returns-in_default : goal.returns-in_default
returns-in_default c =
    let n = c.past_marks-number.result in
    record { takes = takes_answer c.args.region.now (map item_of c.args.deferred.now) c.args.number n c.past_marks-number.ensures (no_item c.args.deferred.now n c.in_default.ensures.lookup.3) }

pub load_goals-requires : goal.load_goals-requires
load_goals-requires c =
    let h = c.in-Some.ensures.lookup in
    let n = c.past_marks-number.result in
    let there = item_found c.args.deferred.now n c.in-Some.item.now (Goal c.in-Goal.term c.in-Goal.cut) h.3.0 h.1 c.in-Goal.is in
    let scoped = item_holds (IsDeferredOver c.args.region.now.store.now.next (length c.args.region.now.choices)) (map item_of c.args.deferred.now) n (GoalItem c.in-Goal.term c.in-Goal.cut) c.requires.scoped there in
    let over = goals_bound c.args.region.now.store.now.next (length c.args.region.now.choices) (map item_of c.args.deferred.now) c.in-Goal.cut (n + 1) c.in_ok-more-in-Goal.more.items c.requires.scoped c.in_ok-more-in-Goal.ensures.are in
    record { goal = scoped.0; more = subst (Each (λ t. var_bound t ≤ c.args.region.now.store.now.next)) (sym c.deref.ensures.value) over; cut = scoped.1 }

pub returns-in-Collect : goal.returns-in-Collect
returns-in-Collect c =
    let h = c.in-Some.ensures.lookup in
    let n = c.past_marks-number.result in
    let there = item_found c.args.deferred.now n c.in-Some.item.now (Collect c.in-Collect.template c.in-Collect.over) h.3.0 h.1 c.in-Collect.is in
    record { takes = takes_result c.args.region.now (map item_of c.args.deferred.now) c.args.number n c.past_marks-number.ensures c.in-Collect.template c.in-Collect.over there }

pub returns-in-Removal : goal.returns-in-Removal
returns-in-Removal c =
    let h = c.in-Some.ensures.lookup in
    let n = c.past_marks-number.result in
    let there = item_found c.args.deferred.now n c.in-Some.item.now (Removal c.in-Removal.clause) h.3.0 h.1 c.in-Removal.is in
    record { takes = takes_removal c.args.region.now (map item_of c.args.deferred.now) c.args.number n c.past_marks-number.ensures c.in-Removal.clause there }

pub returns-in_ok-goal-in-Goal : goal.returns-in_ok-goal-in-Goal
returns-in_ok-goal-in-Goal c =
    let h = c.in-Some.ensures.lookup in
    let n = c.past_marks-number.result in
    let there = item_found c.args.deferred.now n c.in-Some.item.now (Goal c.in-Goal.term c.in-Goal.cut) h.3.0 h.1 c.in-Goal.is in
    record {
      takes =
          takes_goals c.args.region.now (map item_of c.args.deferred.now) c.args.number n c.past_marks-number.ensures c.in-Goal.term c.deref.result.now c.in-Goal.cut c.in_ok-more-in-Goal.rest c.load_goals.new.region c.in_ok-goal-in-Goal.goal c.in_ok-goal-in-Goal.place there (subst (λ more. FindsGoals (map item_of c.args.deferred.now) c.in-Goal.cut (n + 1) more c.in_ok-more-in-Goal.rest) (sym c.deref.ensures.value) c.in_ok-more-in-Goal.ensures) c.in_ok-goal-in-Goal.ensures.loads;
    }
