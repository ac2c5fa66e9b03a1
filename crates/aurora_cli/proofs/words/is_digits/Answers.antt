use Rattle.std.proofs.Common.{◌≡◌, ℕ, List, true, false, suc, ◌+◌, take, sym, subst, arith}
use Rattle.std.specs.Str.{all_ascii_digits}
use Rattle.aurora_cli.proofs.BudgetLemmas.{not_all, one_more}
use Rattle.aurora_cli.proofs.words.is_digits.Goals as goal

pub returns-then-not-is_ascii_digit : goal.returns-then-not-is_ascii_digit
returns-then-not-is_ascii_digit c =
    subst (λ (w : List ℕ). false ≡ all_ascii_digits w) c.as_bytes-byte-items.ensures.value (not_all c.as_bytes-byte-items.result.now c.loop-byte.byte-index c.loop-byte-test.true c.if-not-is_ascii_digit.ensures.value)

pub loop-byte-preserved : goal.loop-byte-preserved
loop-byte-preserved c =
    let same = c.as_bytes-byte-items.ensures.value in
    let next : suc c.loop-byte.byte-index ≡ c.loop-byte.byte-index + 1 = omega arith in
    let so_far : all_ascii_digits (take c.loop-byte.byte-index c.as_bytes-byte-items.result.now) ≡ true = subst (λ w. all_ascii_digits (take c.loop-byte.byte-index w) ≡ true) (sym same) c.loop-byte.invariant in
    let more = one_more c.as_bytes-byte-items.result.now c.loop-byte.byte-index c.loop-byte-test.true so_far (sym c.if-not-is_ascii_digit.ensures.value) in
    subst (λ w. all_ascii_digits (take (c.loop-byte.byte-index + 1) w) ≡ true) same (subst (λ n. all_ascii_digits (take n c.as_bytes-byte-items.result.now) ≡ true) next more)
