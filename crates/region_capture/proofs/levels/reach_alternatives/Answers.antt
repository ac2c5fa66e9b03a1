use Rattle.std.proofs.Common.{List, take, subst}
use Rattle.au_term.specs.declared.segment.Binding.{Binding}
use Rattle.au_model.specs.Terms.Each.{Each}
use Rattle.region_capture.specs.KeptLevels.{IsBindingReached, ReachesAlternative}
use Rattle.region_capture.proofs.ReachLemmas.{alternatives_still, each_one_more, reaches_still}
use Rattle.region_capture.proofs.SeenLemmas.{sees_twice}
use Rattle.region_capture.proofs.levels.reach_alternatives.Goals as goal

pub loop-alternative-preserved : goal.loop-alternative-preserved
loop-alternative-preserved c =
    let st = c.args.store.now in
    let first = c.args.first in
    let next = st.now.next in
    let lists = c.args.items.now in
    let start = c.args.needed.now in
    let old = c.loop-alternative.needed in
    let mid = c.reach_items.new.needed in
    let new = c.reach_bindings.new.needed in
    let i = c.loop-alternative.alternative-index in
    let all = c.args.alternatives.now in
    let a = c.alternative-item.result in
    let was = c.loop-alternative.invariant in
    let one = c.in_ok-reach_items.ensures in
    let two = c.in_ok-reach_bindings.ensures in
    let step = sees_twice st first old mid new one.more two.more in
    let own : ReachesAlternative next new.seen lists a
    = record {
      items = reaches_still next mid.seen new.seen lists a.first two.more.below.kept one.reached;
      bindings = subst (λ (bs : List Binding). Each (IsBindingReached next new.seen) bs) c.as_slice.ensures two.reached;
    } in
    record {
      more = sees_twice st first start old new was.more step;
      done = each_one_more (ReachesAlternative next new.seen lists) all i a c.loop-alternative-test.true (alternatives_still next old.seen new.seen lists (take i all) step.below.kept was.done)
          (subst (ReachesAlternative next new.seen lists) c.alternative-item.is own);
    }
