use Rattle.std.proofs.Common.{◌≡◌, ◌+◌, sym, subst}
use Rattle.std.specs.Prelude.{IfOk, MatchOption}
use Rattle.std.proofs.lemmas.Result.{IfOk-weaker}
use Rattle.run_model.specs.Programs.Bodies.{called_goals}
use Rattle.cell_store.specs.StoreView.{StoreView, meaning}
use Rattle.region_control.specs.Replies.{LeavesOutcome}
use Rattle.meta_call.specs.Calls.{CanTake, IsCallRefused}
use Rattle.meta_call.proofs.CallLemmas.{call_refused, call_taken, comes_after}
use Rattle.meta_call.proofs.call.call_goal.Goals as goal

pub returns-in-Some-clause-comes : goal.returns-in-Some-clause-comes
returns-in-Some-clause-comes c =
    let r = c.args.region.now in
    let reached = c.dereference-callee.result in
    let n = c.args.further.count in
    let same = subst (λ (st : StoreView). meaning st reached ≡ meaning st c.args.callee) c.store.ensures.store c.dereference-callee.ensures.same in
    let refused = subst (λ o. MatchOption o (CanTake r.store reached n) (IsCallRefused r.store reached n)) c.in-Some.is (subst (λ (st : StoreView). MatchOption c.in_ok-fault.field-0 (CanTake st reached n) (IsCallRefused st reached n)) c.store-2.ensures.store c.in_ok-fault.ensures) in
    subst (λ o. IfOk c.raise_call.result (LeavesOutcome r c.raise_call.new.region o c.args.place)) (sym (call_refused r.store c.args.callee reached c.args.further c.in-Some.fault same refused)) c.raise_call.ensures.comes

pub returns-in_ok-goal-in-None-clause-comes : goal.returns-in_ok-goal-in-None-clause-comes
returns-in_ok-goal-in-None-clause-comes c =
    let r = c.args.region.now in
    let mid = c.goal_value.new.region in
    let new = c.called.new.region in
    let reached = c.dereference-callee.result in
    let n = c.args.further.count in
    let t = meaning mid.store c.in_ok-goal-in-None.goal in
    let same = subst (λ (st : StoreView). meaning st reached ≡ meaning st c.args.callee) c.store.ensures.store c.dereference-callee.ensures.same in
    let room = subst (λ o. MatchOption o (CanTake r.store reached n) (IsCallRefused r.store reached n)) c.in-None.is (subst (λ (st : StoreView). MatchOption c.in_ok-fault.field-0 (CanTake st reached n) (IsCallRefused st reached n)) c.store-2.ensures.store c.in_ok-fault.ensures) in
    let outcome = call_taken r.store c.args.callee reached c.args.further t same room c.in_ok-goal-in-None.ensures.goal in
    IfOk-weaker c.called.result _ _ (λ after h. subst (λ o. LeavesOutcome r new o c.args.place after) (sym outcome) (comes_after r mid c.args.place c.in_ok-goal-in-None.ensures.made c.requires.place new (n + 1) t (called_goals t) after h)) c.called.ensures.comes
