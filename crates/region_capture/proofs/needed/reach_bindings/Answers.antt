use Rattle.std.proofs.Common.{take, subst, arith}
use Rattle.region_capture.specs.KeptLevels.{IsBindingReached}
use Rattle.region_capture.proofs.ReachLemmas.{bindings_still, each_one_more}
use Rattle.region_capture.proofs.SeenLemmas.{sees_nothing, sees_twice}
use Rattle.region_capture.proofs.needed.reach_bindings.Goals as goal

pub loop-binding-init : goal.loop-binding-init
loop-binding-init c = record { more = sees_nothing c.args.store.now c.args.first c.args.needed.now; done = tt }

pub reach_binding-requires : goal.reach_binding-requires
reach_binding-requires c = let r = c.requires in let l = c.loop-binding.invariant.more.long in omega (arith, r, l)

pub loop-binding-preserved : goal.loop-binding-preserved
loop-binding-preserved c =
    let st = c.args.store.now in
    let next = st.now.next in
    let old = c.loop-binding.needed in
    let new = c.reach_binding.new.needed in
    let i = c.loop-binding.binding-index in
    let bs = c.args.bindings.now in
    let step = c.in_ok-reach_binding.ensures in
    record {
      more = sees_twice st c.args.first c.args.needed.now old new c.loop-binding.invariant.more step.more;
      done = each_one_more (IsBindingReached next new.seen) bs i c.binding-item.result c.loop-binding-test.true (bindings_still next old.seen new.seen (take i bs) step.more.below.kept c.loop-binding.invariant.done) (subst (IsBindingReached next new.seen) c.binding-item.is step.reached);
    }
