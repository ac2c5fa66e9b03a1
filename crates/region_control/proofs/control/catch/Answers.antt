use Rattle.cell_store.specs.StoreView.{meaning}
use Rattle.run_model.specs.Goals.Outcomes.{CatchOf}
use Rattle.region_split.specs.ChoicePoints.{IsCatching}
use Rattle.region_split.specs.StackOperations.{PutsBefore, item_here}
use Rattle.region_split.specs.declared.choice.Alternatives.TheVariants.{Catch}
use Rattle.region_split.specs.declared.frame.FrameItem.TheVariants.{Call}
use Rattle.region_split.specs.declared.frame.Position.{Position}
use Rattle.region_split.proofs.CallLemmas.{if_ok_then}
use Rattle.region_control.specs.Controls.{Controls}
use Rattle.region_control.proofs.ControlLemmas.{newest_is, place_in, place_over, caught}
use Rattle.region_control.proofs.control.catch.Goals as goal

pub push_choice-requires-clause-position : goal.push_choice-requires-clause-position
push_choice-requires-clause-position c = place_in c.args.region.now c.args.place c.requires.place

pub push_item-requires-clause-after : goal.push_item-requires-clause-after
push_item-requires-clause-after c = place_over c.args.region.now c.push_choice.new.self (Catch c.args.catcher c.args.recovery) c.args.place c.in_ok-inner.inner c.requires.place c.in_ok-inner.ensures.count c.in_ok-push_choice.ensures.ok

pub push_item-requires-clause-mark : goal.push_item-requires-clause-mark
push_item-requires-clause-mark c = newest_is IsCatching c.args.region.now c.push_choice.new.self (Catch c.args.catcher c.args.recovery) c.args.place.after c.in_ok-inner.inner c.in_ok-inner.ensures.count c.in_ok-push_choice.ensures.ok tt

pub returns : goal.returns
returns c =
    let r = c.args.region.now in
    let r1 = c.push_choice.new.self in
    let r2 = c.push_item.new.self in
    let last = c.push_item-2.new.self in
    let inner = c.in_ok-inner.inner in
    if_ok_then (PutsBefore r2 last (item_here r2 (Call c.args.goal) inner) inner c.in_ok-end.end) (Controls r last (CatchOf (meaning r.store c.args.goal) (meaning r.store c.args.catcher) (meaning r.store c.args.recovery)) c.args.place) c.push_item-2.result
    (λ (q : Position) z. caught r r1 r2 last c.args.goal c.args.catcher c.args.recovery inner c.args.place c.in_ok-end.end q c.requires.place c.in_ok-inner.ensures.count c.in_ok-inner.ensures.height c.in_ok-push_choice.ensures.ok c.in_ok-end.ensures.ok z)
    c.push_item-2.ensures.ok
