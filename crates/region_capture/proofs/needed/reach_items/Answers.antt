use Rattle.std.proofs.Common.{arith}
use Rattle.region_capture.specs.CapturedItems.{captured_item}
use Rattle.region_capture.proofs.ReachLemmas.{reaches_none, reaches_on}
use Rattle.region_capture.proofs.SeenLemmas.{sees_nothing, sees_twice}
use Rattle.region_capture.proofs.needed.reach_items.Goals as goal

pub loop-item-init : goal.loop-item-init
loop-item-init c = record {
  within = c.requires.number;
  more = sees_nothing c.args.store.now c.args.first c.args.needed.now;
  rest = λ later k h. h;
}

pub first-requires : goal.first-requires
first-requires c = c.loop-item.invariant.within

pub reach_item-requires : goal.reach_item-requires
reach_item-requires c = let r = c.requires.long in let l = c.loop-item.invariant.more.long in omega (arith, r, l)

pub loop-item-smaller : goal.loop-item-smaller
loop-item-smaller c = c.in-Some.ensures.smaller

pub loop-item-preserved : goal.loop-item-preserved
loop-item-preserved c =
    let st = c.args.store.now in
    let lists = c.args.items.now in
    let item = captured_item c.in-Some.item.now in
    let b = c.in-Some.ensures in
    let was = c.loop-item.invariant in
    let old = c.loop-item.needed in
    let new = c.reach_item.new.needed in
    let step = c.in_ok-reach_item.ensures in
    record {
      within = let lt = b.smaller in let l = was.within in omega (arith, lt, l);
      more = sees_twice st c.args.first c.args.needed.now old new was.more step.more;
      rest = reaches_on st.now.next lists c.loop-item.number c.in-Some.after item b old.seen new.seen c.args.number step.more.below.kept step.reached was.rest;
    }

pub returns-clause-more : goal.returns-clause-more
returns-clause-more c = c.loop-item.invariant.more

pub returns-clause-reached : goal.returns-clause-reached
returns-clause-reached c = reaches_none c.args.store.now.now.next c.loop-item.needed.seen c.args.items.now c.args.number c.loop-item.number c.in_default.ensures c.loop-item.invariant.rest
