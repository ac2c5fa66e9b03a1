use Rattle.std.proofs.Common.{◌≡◌, ◌<◌, ◌∙◌, ap, sym, subst, nat_lt, rules, of_calls, length, get_or, ℕ, arith}
use Rattle.std.proofs.lemmas.List.Sorted.{IsPartitionPoint-from_clause}
use Rattle.std.specs.List.Sorted.{IsPartitionedBy}
use Rattle.task_region.specs.ScopeHeights.{height_among}
use Rattle.task_region.proofs.HeightByNumberLemmas.{IsSplitAt, rise_parted, height_there, height_not_there}
use Rattle.task_region.proofs.heights.height.Goals.{else-at-numbers-via-then-at-numbers+else-numbers-at, else-at-numbers-via-else-at-numbers}
use Rattle.task_region.proofs.heights.height.Goals as goal

pub returns-then-numbers-at : goal.returns-then-numbers-at
returns-then-numbers-at c = λ places are falls.
    let s = c.number-number.result in
    let at = c.partition_point-at.result in
    height_there 0 places falls at s (subst (λ xs. at < length xs) are c.if-at-numbers.true) (subst (λ xs. get_or xs at 0 ≡ s) are c.if-numbers-at.true)
    ∙ ap (height_among places) c.number-number.ensures

pub returns-else-at-numbers : goal.returns-else-at-numbers
returns-else-at-numbers c = λ places are falls.
    let s = c.number-number.result in
    let xs = c.args.numbers.now in
    let at = c.partition_point-at.result in
    let parted : IsPartitionedBy (λ (n : ℕ). nat_lt n s) xs = subst (IsPartitionedBy (λ (n : ℕ). nat_lt n s)) (sym are) (rise_parted s places falls) in
    let split : IsSplitAt s xs at = IsPartitionPoint-from_clause (λ (n : ℕ). nat_lt n s) xs at c.partition_point-at.ensures.partitioned parted (λ a r q k. search (rules, of_calls)) in
    elim c.else-at-numbers.branch [
      | else-at-numbers-via-then-at-numbers+else-numbers-at w ↦
          height_not_there 0 places falls at s (subst (λ ys. IsSplitAt s ys at) are split) (λ l e. w.if-numbers-at.false (subst (λ ys. get_or ys at 0 ≡ s) (sym are) e))
          ∙ ap (height_among places) c.number-number.ensures
      | else-at-numbers-via-else-at-numbers w ↦
          height_not_there 0 places falls at s (subst (λ ys. IsSplitAt s ys at) are split) (λ l e. let past = w.if-at-numbers.false in let m = subst (λ ys. at < length ys) (sym are) l in omega (arith, past, m))
          ∙ ap (height_among places) c.number-number.ensures
    ]
