use Rattle.std.proofs.Common.{refl, arith}
use Rattle.tree_model.specs.EventViews.{place_view}
use Rattle.branch_order.proofs.MeetingLemmas.{meets_begin, meets_more, meets_end}
use Rattle.branch_order.proofs.sides.before.Goals as goal

pub loop-above-init : goal.loop-above-init
loop-above-init c = record {
  first = c.requires.first;
  second = c.requires.second;
  meets = meets_begin c.args.nodes.now (place_view c.args.a) (place_view c.args.b);
}

pub loop-above-smaller : goal.loop-above-smaller
loop-above-smaller c = omega (arith, c.in-Some.ensures.lower)

pub loop-above-preserved : goal.loop-above-preserved
loop-above-preserved c = record {
  first = c.in-Some.ensures.there.0;
  second = c.in-Some.ensures.there.1;
  meets = meets_more c.args.nodes.now (place_view c.args.a) (place_view c.args.b) (place_view c.loop-above.first) (place_view c.loop-above.second)
      (c.in-Some.above, c.in-Some.other) c.loop-above.invariant.meets c.in-Some.ensures.step;
}

pub returns : goal.returns
returns c = meets_end c.args.nodes.now (place_view c.args.a) (place_view c.args.b) (place_view c.loop-above.first) (place_view c.loop-above.second) _
    c.loop-above.invariant.meets c.in_default.ensures.step refl
