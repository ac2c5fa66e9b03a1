use Rattle.std.proofs.Common.{◌≡◌, ◌∙◌, subst, arith}
use Rattle.run_model.specs.Goals.Outcomes.{TestOf}
use Rattle.region_split.specs.StackOperations.{PutsBefore, item_here}
use Rattle.region_split.specs.declared.choice.Alternatives.TheVariants.{Elsewhere}
use Rattle.region_split.specs.declared.frame.FrameItem.TheVariants.{Cut}
use Rattle.region_split.specs.declared.frame.Position.{Position}
use Rattle.region_split.proofs.CallLemmas.{if_ok_then}
use Rattle.region_split.proofs.ItemLemmas.{position_more}
use Rattle.region_control.specs.Controls.{Controls}
use Rattle.region_control.specs.Goals.{goals_by, given_goals}
use Rattle.region_control.proofs.ControlLemmas.{put_position, put_goals, put_many, added_goals, added_many, tested}
use Rattle.region_control.proofs.control.test.Goals as goal

pub push_choice-requires-clause-position : goal.push_choice-requires-clause-position
push_choice-requires-clause-position c =
    let r0 = c.args.region.now in
    put_position r0 c.push_goals.new.region (goals_by (given_goals r0.store c.args.others) c.args.place.cut) c.args.place c.in_ok-other.other c.requires.place c.in_ok-other.ensures.ok

pub push_item-requires-clause-after : goal.push_item-requires-clause-after
push_item-requires-clause-after c =
    let s = c.requires.place.scope in let e = c.in_ok-own.ensures.count in
    position_more c.push_goals-2.new.region c.args.place.cut c.in_ok-own.own c.in_ok-then.then (omega (arith, s, e)) c.in_ok-then.ensures.ok.position

pub push_goals-requires-3-clause-after : goal.push_goals-requires-3-clause-after
push_goals-requires-3-clause-after c =
    let r0 = c.args.region.now in
    let a = put_many r0 c.push_goals.new.region (goals_by (given_goals r0.store c.args.others) c.args.place.cut) c.args.place.cut c.args.place.after c.in_ok-other.other c.in_ok-other.ensures.ok in
    let b = added_many c.push_goals.new.region c.push_choice.new.self Elsewhere c.in_ok-other.other c.in_ok-push_choice.ensures.ok in
    let d = c.in_ok-own.ensures.count in let e = c.in_ok-inner.ensures.count in
    position_more c.push_item.new.self c.in_ok-own.own c.in_ok-inner.inner c.in_ok-pruned.pruned (omega (arith, a, b, d, e)) c.in_ok-pruned.ensures.ok.position

pub returns : goal.returns
returns c =
    let r0 = c.args.region.now in
    let r = c.push_goals.new.region in
    let r1 = c.push_choice.new.self in
    let r2 = c.push_goals-2.new.region in
    let r3 = c.push_item.new.self in
    let last = c.push_goals-3.new.region in
    let g = c.args.place in
    let own = c.in_ok-own.own in
    let inner = c.in_ok-inner.inner in
    let other = c.in_ok-other.other in
    let x = c.in_ok-other.ensures.ok in
    let a = c.in_ok-push_choice.ensures.ok in
    let y = c.in_ok-then.ensures.ok in
    let z = c.in_ok-pruned.ensures.ok in
    let others = given_goals r0.store c.args.others in
    let thens = given_goals r0.store c.args.then in
    let condition = given_goals r0.store c.args.condition in
    let then_same : given_goals r1.store c.args.then ≡ thens = added_goals r r1 Elsewhere other a c.args.then ∙ put_goals r0 r (goals_by others g.cut) g.cut g.after other x c.args.then in
    let same : given_goals r3.store c.args.condition ≡ condition =
    put_goals r2 r3 (item_here r2 Cut own) own c.in_ok-then.then c.in_ok-pruned.pruned z c.args.condition
    ∙ (put_goals r1 r2 (goals_by (given_goals r1.store c.args.then) g.cut) g.cut g.after c.in_ok-then.then y c.args.condition
    ∙ (added_goals r r1 Elsewhere other a c.args.condition ∙ put_goals r0 r (goals_by others g.cut) g.cut g.after other x c.args.condition)) in
    if_ok_then (PutsBefore r3 last (goals_by (given_goals r3.store c.args.condition) inner) inner c.in_ok-pruned.pruned) (Controls r0 last (TestOf condition thens others) g) c.push_goals-3.result
    (λ (s : Position) w.
    tested r0 r r1 r2 r3 last condition thens others own inner g other c.in_ok-then.then c.in_ok-pruned.pruned s c.requires.place c.in_ok-own.ensures.count c.in_ok-inner.ensures.count c.in_ok-inner.ensures.height x a
    (subst (λ gs. PutsBefore r1 r2 (goals_by gs g.cut) g.cut g.after c.in_ok-then.then) then_same y) z
    (subst (λ gs. PutsBefore r3 last (goals_by gs inner) inner c.in_ok-pruned.pruned s) same w))
    c.push_goals-3.ensures.ok
