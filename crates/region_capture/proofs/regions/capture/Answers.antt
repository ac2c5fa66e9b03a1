use Rattle.std.proofs.Common.{◌-◌, sym, subst, arith}
use Rattle.region_capture.proofs.ItemLemmas.{nothing_added, added_twice}
use Rattle.region_capture.proofs.CaptureLemmas.{CapturesDownTo, captures_start, captures_next, newest_below, own_there, region_captured}
use Rattle.region_capture.proofs.regions.capture.Goals as goal

pub loop-alloc-init : goal.loop-alloc-init
loop-alloc-init c =
    let r = c.args.region.now in
    let lists = c.capture_current.new.items in
    let current = c.in_ok-current.current in
    let seen = c.in_ok-current.reached in
    record {
      captured = subst (λ taken. CapturesDownTo r r c.args.floor lists taken c.args.position current.bindings seen) (sym c.new-choices.ensures.items)
          (captures_start r c.args.floor c.new-items.result lists c.args.position (c.height-newest.result - 1) current seen c.ends_are_oldest.ensures.marks c.requires.floor.many
          (let h = c.height-newest.ensures in let s = c.requires.floor.some in let m = c.requires.floor.many in omega (arith, h, s, m)) c.in_ok-current.ensures);
      adds = nothing_added lists;
    }

pub capture_newest-requires-clause-own : goal.capture_newest-requires-clause-own
capture_newest-requires-clause-own c =
    let l = c.loop-alloc in
    own_there c.args.region.now l.region c.args.floor l.items l.choices.items c.args.position c.in_ok-current.current.bindings l.seen c.requires.floor l.invariant.captured (let h = c.height.ensures in let t = c.loop-alloc-test.true in omega (arith, h, t))

pub capture_newest-requires-clause-long : goal.capture_newest-requires-clause-long
capture_newest-requires-clause-long c =
    let l = c.loop-alloc in
    newest_below c.args.region.now l.region c.args.floor l.items l.choices.items c.args.position c.in_ok-current.current.bindings l.seen c.requires.floor c.ends_are_oldest.ensures.marks l.invariant.captured

pub loop-alloc-preserved : goal.loop-alloc-preserved
loop-alloc-preserved c =
    let l = c.loop-alloc in
    let r = c.args.region.now in
    let new = c.capture_newest.new.region in
    let lists = c.capture_newest.new.items in
    let current = c.in_ok-current.current in
    let seen = c.in_ok-choice.more in
    record {
      captured =
          subst (λ taken. CapturesDownTo r new c.args.floor lists taken c.args.position current.bindings seen) (sym c.in_ok-push.ensures.items)
          (captures_next r l.region new c.args.floor c.requires.floor.some l.items lists l.choices.items c.in_ok-choice.choice c.args.position current.bindings l.seen seen l.invariant.captured (let h = c.height.ensures in let t = c.loop-alloc-test.true in omega (arith, h, t))
          c.in_ok-choice.ensures);
      adds = added_twice c.capture_current.new.items l.items lists l.invariant.adds c.in_ok-choice.ensures.adds;
    }

pub returns : goal.returns
returns c =
    let l = c.loop-alloc in
    region_captured c.args.region.now l.region c.args.floor c.args.position c.new-items.result c.capture_current.new.items (record { items = l.items; current = c.in_ok-current.current; choices = l.choices }) c.requires.floor c.requires.position c.ends_are_oldest.ensures.marks (c.height-newest.result - 1)
    (let h = c.height-newest.ensures in let s = c.requires.floor.some in let m = c.requires.floor.many in omega (arith, h, s, m)) c.in_ok-current.reached l.seen c.in_ok-current.ensures l.invariant.adds l.invariant.captured (let h = c.height.ensures in let t = c.loop-alloc-test.false in omega (arith, h, t))
