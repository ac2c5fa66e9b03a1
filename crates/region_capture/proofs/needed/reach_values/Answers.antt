use Rattle.std.proofs.Common.{◌≡◌, ◌+◌, ◌-◌, ◌<◌, ◌≤◌, List, length, length-append, take, take_all, get_or, sym, ap, ◌∙◌, subst, arith}
use Rattle.au_term.specs.declared.segment.Binding.{Binding}
use Rattle.region_capture.specs.KeptLevels.{AreReachedIn, ReachesValues}
use Rattle.region_capture.specs.NeededBindings.{reach_left}
use Rattle.region_capture.proofs.ReachLemmas.{values_more}
use Rattle.region_capture.proofs.SeenLemmas.{sees_nothing, sees_twice}
use Rattle.region_capture.proofs.needed.reach_values.Goals as goal

pub loop-at-init : goal.loop-at-init
loop-at-init c = record {
  within = omega arith;
  more = sees_nothing c.args.store.now c.args.first c.args.needed.now;
  done = tt;
}

pub reach_term-requires : goal.reach_term-requires
reach_term-requires c = let r = c.requires in let l = c.loop-at.invariant.more.long in omega (arith, r, l)

pub loop-at-smaller : goal.loop-at-smaller
loop-at-smaller c =
    let n = c.loop-at.needed in
    let at = c.loop-at.at in
    let lt : at < length n.bindings = subst (λ (bs : List Binding). at < length bs) c.as_slice.ensures c.loop-at-test.true in
    let f = c.in_ok-reach_term.ensures.more.fewer in
    let less : reach_left c.reach_term.new.needed - (at + 1) < reach_left n - at = omega (arith, lt, f) in
    less

pub loop-at-preserved : goal.loop-at-preserved
loop-at-preserved c =
    let st = c.args.store.now in
    let old = c.loop-at.needed in
    let new = c.reach_term.new.needed in
    let at = c.loop-at.at in
    let d = c.index-as_slice-at.result in
    let was = c.loop-at.invariant in
    let step = c.in_ok-reach_term.ensures in
    let lt : at < length old.bindings = subst (λ (bs : List Binding). at < length bs) c.as_slice.ensures c.loop-at-test.true in
    let is : c.in_ok-value.value ≡ (get_or old.bindings at d).value = c.in_ok-value.ensures ∙ ap (λ (bs : List Binding). (get_or bs at d).value) c.as_slice-in-loop-at.ensures in
    record {
      within = let l : length new.bindings ≡ length old.bindings + length step.more.more = ap (λ (bs : List Binding). length bs) step.more.added ∙ length-append old.bindings step.more.more in omega (arith, lt, l);
      more = sees_twice st c.args.first c.args.needed.now old new was.more step.more;
      done = subst (λ (bs : List Binding). ReachesValues st.now.next new.seen (take (at + 1) bs)) (sym step.more.added)
          (values_more st.now.next at old.seen new.seen old.bindings step.more.more d lt step.more.below.kept (subst (AreReachedIn st.now.next new.seen) is step.reached) was.done);
    }

pub returns-clause-more : goal.returns-clause-more
returns-clause-more c = c.loop-at.invariant.more

pub returns-clause-reached : goal.returns-clause-reached
returns-clause-reached c =
    let n = c.loop-at.needed in
    let le : length n.bindings ≤ c.loop-at.at = subst (λ (bs : List Binding). length bs ≤ c.loop-at.at) c.as_slice.ensures c.loop-at-test.false in
    subst (ReachesValues c.args.store.now.now.next n.seen) (take_all c.loop-at.at n.bindings le) c.loop-at.invariant.done
