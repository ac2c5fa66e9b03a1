use Rattle.std.proofs.Common.{◌≡◌, ◌+◌, List, ap, ◌∙◌, arith}
use Rattle.tree_nodes.specs.declared.gaps.Gap.{Gap}
use Rattle.tree_nodes.specs.Gaps.{left_of_gap_at, right_of_gap_at}
use Rattle.tree_nodes.proofs.GapLemmas.{left_joined}
use Rattle.tree_nodes.proofs.gaps.shut_gap.Goals as goal

pub returns : goal.returns
returns c = λ cells shut h.
    let old = c.args.gaps.now.items in
    let i = c.args.index in
    let a : c.left_gap-left.result ≡ left_of_gap_at old i = c.left_gap-left.ensures ∙ ap (λ (x : List Gap). left_of_gap_at x i) c.deref.ensures.value in
    let b : c.right_gap-right.result ≡ right_of_gap_at old i = c.right_gap-right.ensures ∙ ap (λ (x : List Gap). right_of_gap_at x i) c.deref-2.ensures.value in
    let some = c.saturating_add.ensures in
    let many = c.saturating_add-many.ensures in
    left_joined old c.join_left.new.gaps.items c.set_left.new.gaps.items i ((i + 1) + c.right_gap-right.result) c.saturating_add-many.result cells shut h
    (c.join_left.ensures cells shut h) (omega (arith, b)) (omega (arith, a, b, some, many)) c.set_left.ensures
