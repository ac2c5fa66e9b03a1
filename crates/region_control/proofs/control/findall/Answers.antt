use Rattle.std.proofs.Common.{◌≡◌, [], ap, ◌∙◌}
use Rattle.cell_store.specs.StoreView.{StoreView, meaning}
use Rattle.run_model.specs.Goals.Outcomes.{FindallOf}
use Rattle.region_split.specs.ResultLists.{ResultsView}
use Rattle.region_split.specs.ChoicePoints.{IsCollecting}
use Rattle.region_split.specs.StackOperations.{PutsBefore, item_here}
use Rattle.region_split.specs.declared.choice.Alternatives.TheVariants.{Findall}
use Rattle.region_split.specs.declared.frame.FrameItem.TheVariants.{Call}
use Rattle.region_split.specs.declared.frame.Position.{Position}
use Rattle.region_split.proofs.CallLemmas.{if_ok_then}
use Rattle.region_control.specs.Controls.{Controls}
use Rattle.region_control.proofs.ControlLemmas.{newest_is, place_in, place_over, all_found}
use Rattle.region_control.proofs.control.findall.Goals as goal

pub push_choice-requires-clause-position : goal.push_choice-requires-clause-position
push_choice-requires-clause-position c = place_in c.args.region.now c.args.place c.requires.place

pub push_item-requires-clause-after : goal.push_item-requires-clause-after
push_item-requires-clause-after c = place_over c.args.region.now c.push_choice.new.self (Findall c.args.list c.new-results.result) c.args.place c.in_ok-inner.inner c.requires.place c.in_ok-inner.ensures.count c.in_ok-push_choice.ensures.ok

pub push_item-requires-clause-mark : goal.push_item-requires-clause-mark
push_item-requires-clause-mark c = newest_is IsCollecting c.args.region.now c.push_choice.new.self (Findall c.args.list c.new-results.result) c.args.place.after c.in_ok-inner.inner c.in_ok-inner.ensures.count c.in_ok-push_choice.ensures.ok tt

pub returns : goal.returns
returns c =
    let r = c.args.region.now in
    let r1 = c.push_choice.new.self in
    let r2 = c.push_item.new.self in
    let last = c.push_item-2.new.self in
    let inner = c.in_ok-inner.inner in
    let number : c.from.result ≡ r.store.now.next = c.from.ensures ∙ (c.next.ensures.next ∙ ap (λ (st : StoreView). st.now.next) c.store.ensures.store) in
    let none : c.new-results.result ≡ record { terms = []; next = r.store.now.next } = c.new-results.ensures ∙ ap (λ n. (let x : ResultsView = record { terms = []; next = n } in x)) number in
    if_ok_then (PutsBefore r2 last (item_here r2 (Call c.args.goal) inner) inner c.in_ok-end.end) (Controls r last (FindallOf (meaning r.store c.args.template) (meaning r.store c.args.goal) (meaning r.store c.args.list)) c.args.place) c.push_item-2.result
    (λ (q : Position) z. all_found r r1 r2 last c.args.template c.args.goal c.args.list c.new-results.result inner c.args.place c.in_ok-end.end q c.requires.place none c.in_ok-inner.ensures.count c.in_ok-inner.ensures.height c.in_ok-push_choice.ensures.ok c.in_ok-end.ensures.ok z)
    c.push_item-2.ensures.ok
