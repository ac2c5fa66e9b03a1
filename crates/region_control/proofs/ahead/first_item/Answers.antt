use Rattle.std.proofs.Common.{sym, ap, ◌∙◌, subst}
use Rattle.region_split.specs.Regions.{IsLeftAt, IsFirstAt, IsPositionOver}
use Rattle.region_split.specs.declared.frame.Position.{Position}
use Rattle.region_control.proofs.AheadLemmas.{end_passed, goal_further, result_found, removal_found, older_found, nothing_found}
use Rattle.region_control.proofs.ahead.first_item.Goals as goal

pub past_end-after-requires-clause-over : goal.past_end-after-requires-clause-over
past_end-after-requires-clause-over c =
    let r = c.args.region.now in
    let p = c.loop-item.next in
    let q : Position = record { frame = p.frame; at = c.in-Some.at } in
    let first : IsFirstAt r p c.in-First.item c.in-First.cut = subst (IsLeftAt r p) c.in-First.is c.left_at.ensures in
    subst (IsPositionOver r c.in-First.cut) (sym (ap (λ n. (let x : Position = record { frame = p.frame; at = n } in x)) c.in-Some.ensures.1)) first.after

pub past_end-after-requires-clause-scope : goal.past_end-after-requires-clause-scope
past_end-after-requires-clause-scope c =
    let first : IsFirstAt c.args.region.now c.loop-item.next c.in-First.item c.in-First.cut = subst (IsLeftAt c.args.region.now c.loop-item.next) c.in-First.is c.left_at.ensures in
    first.scope

pub returns-then-is_goal : goal.returns-then-is_goal
returns-then-is_goal c =
    let r = c.args.region.now in
    let p = c.loop-item.next in
    let q : Position = record { frame = p.frame; at = c.in-Some.at } in
    goal_further r c.args.position p c.loop-item.invariant c.in-First.cut q (ap (λ n. (let x : Position = record { frame = p.frame; at = n } in x)) c.in-Some.ensures.1)
    c.in-First.item c.past_end-after.result (subst (IsLeftAt r p) c.in-First.is c.left_at.ensures) (sym c.is_goal.ensures ∙ c.if-is_goal.true) c.past_end-after.ensures.over c.past_end-after.ensures.same

pub loop-item-preserved-in-CatchEnd : goal.loop-item-preserved-in-CatchEnd
loop-item-preserved-in-CatchEnd c =
    let r = c.args.region.now in
    let p = c.loop-item.next in
    let q : Position = record { frame = p.frame; at = c.in-Some.at } in
    end_passed r c.args.position p c.loop-item.invariant c.in-First.cut q (ap (λ n. (let x : Position = record { frame = p.frame; at = n } in x)) c.in-Some.ensures.1)
    (subst (λ i. IsFirstAt r p i c.in-First.cut) c.in-CatchEnd.is (subst (IsLeftAt r p) c.in-First.is c.left_at.ensures))

pub returns-in-Collect : goal.returns-in-Collect
returns-in-Collect c =
    let r = c.args.region.now in
    let p = c.loop-item.next in
    let q : Position = record { frame = p.frame; at = c.in-Some.at } in
    result_found r c.args.position p c.loop-item.invariant c.in-First.cut q (ap (λ n. (let x : Position = record { frame = p.frame; at = n } in x)) c.in-Some.ensures.1)
    c.in-Collect.value (subst (λ i. IsFirstAt r p i c.in-First.cut) c.in-Collect.is (subst (IsLeftAt r p) c.in-First.is c.left_at.ensures))

pub loop-item-preserved : goal.loop-item-preserved
loop-item-preserved c =
    let r = c.args.region.now in
    older_found r c.args.position c.loop-item.next c.loop-item.invariant c.in-GoesOnAt.older (subst (IsLeftAt r c.loop-item.next) c.in-GoesOnAt.is c.left_at.ensures)

pub returns-in-Nothing : goal.returns-in-Nothing
returns-in-Nothing c =
    let r = c.args.region.now in
    nothing_found r c.args.position c.loop-item.next c.loop-item.invariant (subst (IsLeftAt r c.loop-item.next) c.in-Nothing.is c.left_at.ensures)

pub returns-in-Removal : goal.returns-in-Removal
returns-in-Removal c =
    let r = c.args.region.now in
    let p = c.loop-item.next in
    let q : Position = record { frame = p.frame; at = c.in-Some.at } in
    removal_found r c.args.position p c.loop-item.invariant c.in-First.cut q (ap (λ n. (let x : Position = record { frame = p.frame; at = n } in x)) c.in-Some.ensures.1)
    c.in-Removal.number (subst (λ i. IsFirstAt r p i c.in-First.cut) c.in-Removal.is (subst (IsLeftAt r p) c.in-First.is c.left_at.ensures))
