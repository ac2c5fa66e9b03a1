use Rattle.std.proofs.Common.{◌≡◌, ◌-◌, ◌<◌, ℕ, suc, length, sym, subst, arith}
use Rattle.tree_model.specs.EventViews.{place_view}
use Rattle.branch_order.specs.Sought.{test_of, IsAheadFrom, IsAlternativePassed, IsEntered}
use Rattle.branch_order.proofs.LeftLemmas.{row_within}
use Rattle.branch_order.proofs.SoughtLemmas.{nothing_found, goes_up, is_there, fewer_ahead}
use Rattle.branch_order.proofs.sought.leftmost_of.Goals as goal

pub loop-entry-init : goal.loop-entry-init
loop-entry-init c =
    let nodes = c.args.nodes.now in
    let test = test_of c.args.sought in
    let b = c.begin-at.result in
    let first : IsAheadFrom nodes test c.in-Some.first 0 c.live-left.result
    = subst (λ (k : ℕ). IsAheadFrom nodes test c.in-Some.first 0 k) (sym c.live-left.ensures.live) (c.in-Some.ensures.ahead test) in
    let ahead : IsAheadFrom nodes test b.node b.alternative c.live-left.result
    = subst (λ (n : ℕ). IsAheadFrom nodes test n b.alternative c.live-left.result) (sym c.begin-at.ensures.node)
    (c.begin-at.ensures.ahead test c.live-left.result first) in
    record { there = is_there nodes test b.node b.alternative c.live-left.result c.live-left.ensures.sound ahead; ahead = ahead }

pub overflow_sub-left : goal.overflow_sub-left
overflow_sub-left c =
    let nodes = c.args.nodes.now in
    let st = c.live-left.ensures.sound in
    let entered : IsEntered nodes (test_of c.args.sought) c.in-Down.node c.loop-entry.left = c.in-Down.ensures.leads c.loop-entry.left c.loop-entry.invariant.ahead in
    let less : 0 < c.loop-entry.left = (entered st.read st.root st.stands).0 in
    omega (arith, less)

pub loop-entry-smaller-in-Down : goal.loop-entry-smaller-in-Down
loop-entry-smaller-in-Down c =
    let nodes = c.args.nodes.now in
    let st = c.live-left.ensures.sound in
    let entered : IsEntered nodes (test_of c.args.sought) c.in-Down.node c.loop-entry.left = c.in-Down.ensures.leads c.loop-entry.left c.loop-entry.invariant.ahead in
    let within : c.in-Down.node < length nodes.rows = row_within nodes.rows c.in-Down.node c.in-Down.ensures.there.0 in
    let there : c.begin-at-in-Down.result.node < length nodes.rows = subst (λ (n : ℕ). n < length nodes.rows) (sym c.begin-at-in-Down.ensures.node) within in
    fewer_ahead c.loop-entry.left (length nodes.rows) c.begin-at-in-Down.result.node c.loop-entry.at.node (entered st.read st.root st.stands).0 there

pub loop-entry-preserved-in-Down : goal.loop-entry-preserved-in-Down
loop-entry-preserved-in-Down c =
    let nodes = c.args.nodes.now in
    let test = test_of c.args.sought in
    let b = c.begin-at-in-Down.result in
    let less = c.loop-entry.left - 1 in
    let entered : IsEntered nodes test c.in-Down.node c.loop-entry.left = c.in-Down.ensures.leads c.loop-entry.left c.loop-entry.invariant.ahead in
    let ahead : IsAheadFrom nodes test b.node b.alternative less = subst (λ (n : ℕ). IsAheadFrom nodes test n b.alternative less) (sym c.begin-at-in-Down.ensures.node)
    (c.begin-at-in-Down.ensures.ahead test less (λ read root s. (entered read root s).1)) in
    record { there = is_there nodes test b.node b.alternative less c.live-left.ensures.sound ahead; ahead = ahead }

pub loop-entry-preserved : goal.loop-entry-preserved
loop-entry-preserved c =
    let nodes = c.args.nodes.now in
    let test = test_of c.args.sought in
    let n = c.loop-entry.at.node in
    let left = c.loop-entry.left in
    let above = place_view c.in-Some-parent.above in
    let passed : IsAlternativePassed nodes test n left = c.in-Up.ensures.leads left c.loop-entry.invariant.ahead in
    let up : IsAheadFrom nodes test above.node (suc above.index) left = goes_up nodes test n left above passed c.in-Some-parent.ensures.parent in
    let r = c.right_of-at.result in
    let one : suc above.index ≡ r.alternative = (let e = c.right_of-at.ensures.alternative in omega (arith, e)) in
    let ahead : IsAheadFrom nodes test r.node r.alternative left = subst (λ (k : ℕ). IsAheadFrom nodes test k r.alternative left) (sym c.right_of-at.ensures.node)
    (subst (λ (k : ℕ). IsAheadFrom nodes test above.node k left) one up) in
    record { there = is_there nodes test r.node r.alternative left c.live-left.ensures.sound ahead; ahead = ahead }

pub returns-in-None-clause-first : goal.returns-in-None-clause-first
returns-in-None-clause-first c =
    let nodes = c.args.nodes.now in
    let test = test_of c.args.sought in
    let left = c.loop-entry.left in
    let passed : IsAlternativePassed nodes test c.loop-entry.at.node left = c.in-Up.ensures.leads left c.loop-entry.invariant.ahead in
    nothing_found nodes test c.loop-entry.at.node left passed c.in-None.ensures.parent
