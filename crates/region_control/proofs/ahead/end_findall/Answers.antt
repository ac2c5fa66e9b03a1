use Rattle.std.proofs.Common.{◌≡◌, ◌+◌, ◌∙◌, ap, subst, arith}
use Rattle.std.specs.Prelude.{codes}
use Rattle.au_model.specs.Terms.Forms.{binary, list_term}
use Rattle.cell_store.specs.ListGoals.{list_goal}
use Rattle.cell_store.specs.StoreView.{StoreView, IsValidStore, meaning}
use Rattle.region_control.proofs.FindallEndLemmas.{goal_below, ends_findall}
use Rattle.region_control.proofs.ahead.end_findall.Goals as goal
use Rattle.region_control.proofs.ahead.end_findall.Goals.{After-terms}

number : (c : After-terms) → c.args.region.now.store.now.next + c.in-Ok.taken ≡ c.args.results.now.next
number c =
    let next : c.from-next.result ≡ c.args.region.now.store.now.next = c.from-next.ensures ∙ (c.next.ensures.next ∙ ap (λ (st : StoreView). st.now.next) c.store.ensures.store) in
    let taken = c.in-Ok.ensures.1 in
    let last = c.next-2.ensures in
    let le = c.requires.2.next in
    omega (arith, next, taken, last, le)

valid : (c : After-terms) → IsValidStore c.args.region.now.store
valid c = subst IsValidStore c.store.ensures.store c.next.ensures.sound

goal_is : (c : After-terms) → list_goal c.in_ok-list.list c.terms.result.now ≡ binary (codes "=") c.in_ok-list.list (list_term c.args.results.now.terms)
goal_is c = ap (list_goal c.in_ok-list.list) c.terms.ensures

left_is : (c : After-terms) → c.in_ok-list.list ≡ meaning c.fresh.new.self.store c.args.list
left_is c = c.in_ok-list.ensures ∙ ap (λ (st : StoreView). meaning st c.args.list) c.store-2.ensures.store

pub list_goal-requires : goal.list_goal-requires
list_goal-requires c =
    let d = (goal.at.list_goal-requires c).After-terms in
    goal_below c.args.region.now c.fresh.new.self c.args.list c.args.results.now c.args.after c.in-Ok.taken (valid d) c.requires.0 c.requires.1 c.requires.2 c.in_ok-fresh.ensures.ok (number d) c.in_ok-list.list (list_goal c.in_ok-list.list c.terms.result.now) (left_is d) (goal_is d)

pub returns-clause-ends : goal.returns-clause-ends
returns-clause-ends c =
    let d = (goal.at.returns-clause-ends c).After-terms in
    ends_findall c.args.region.now c.fresh.new.self c.args.list c.args.results.now c.args.after c.in-Ok.taken (valid d) c.requires.0 c.requires.1 c.requires.2 c.in_ok-fresh.ensures.ok (number d)
    c.list_goal.new.self c.in_ok-value.value c.in_ok-cut.cut c.in_ok-list.list (list_goal c.in_ok-list.list c.terms.result.now) (left_is d) (goal_is d) c.in_ok-value.ensures.text c.in_ok-value.ensures.term c.in_ok-value.ensures.there
    c.in_ok-fresh.ensures.stays c.in_ok-value.ensures.stays c.in_ok-value.ensures.keeps c.in_ok-cut.ensures.count c.in_ok-cut.ensures.height
