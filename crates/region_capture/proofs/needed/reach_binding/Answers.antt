use Rattle.std.proofs.Common.{arith}
use Rattle.region_capture.proofs.ReachLemmas.{reached_still}
use Rattle.region_capture.proofs.SeenLemmas.{sees_twice}
use Rattle.region_capture.proofs.needed.reach_binding.Goals as goal

pub reach_term-requires : goal.reach_term-requires
reach_term-requires c = let r = c.requires in let l = c.in_ok-see_number.ensures.more.long in omega (arith, r, l)

pub returns-clause-more : goal.returns-clause-more
returns-clause-more c = sees_twice c.args.store.now c.args.first c.args.needed.now c.see_number.new.needed c.reach_term.new.needed c.in_ok-see_number.ensures.more c.in_ok-reach_term.ensures.more

pub returns-clause-reached : goal.returns-clause-reached
returns-clause-reached c =
    let next = c.args.store.now.now.next in
    record {
      variable = reached_still next c.see_number.new.needed.seen c.reach_term.new.needed.seen c.args.binding.now.var c.in_ok-reach_term.ensures.more.below.kept c.in_ok-see_number.ensures.reached;
      value = c.in_ok-reach_term.ensures.reached;
    }
