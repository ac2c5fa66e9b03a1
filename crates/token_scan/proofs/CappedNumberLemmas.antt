-- Numbers that stop at a greatest one.
use Rattle.std.proofs.Common.{◌≡◌, ◌∙◌, ℕ, ◌+◌, ◌*◌, ◌≤◌, min, true, List, [], ◌∷◌, inl, inr, sym, ap, arith}
use Rattle.std.specs.Char.{digit_value}
use Rattle.std.specs.Str.Parse.{digits_value_after}
use Rattle.au_model.specs.Syntax.Characters.{run, is_digit_of}
use Rattle.token_scan.proofs.RunLemmas.{run-passes}
use Rattle.std.proofs.Math.Nat.{mul-le-mul_left}
use Rattle.std.proofs.lemmas.Bool.{cases_order}

one_digit : (base most n d : ℕ) → 1 ≤ base → min (min n most * base + d) most ≡ min (n * base + d) most
one_digit base most n d b = elim (cases_order n most) [ inl e ↦ below (omega arith) | inr (inl e) ↦ below (omega arith) | inr (inr e) ↦ above (omega arith) ] where
  below : n ≤ most → min (min n most * base + d) most ≡ min (n * base + d) most
  below l = let e : min n most ≡ n = omega arith in rw e

  above : most ≤ n → min (min n most * base + d) most ≡ min (n * base + d) most
  above l =
      let e : min n most ≡ most = omega arith in
      let x : most * 1 ≤ most * base = mul-le-mul_left most b in
      let y : n * 1 ≤ n * base = mul-le-mul_left n b in
      rw e (omega arith)

-- digits after a number that was cut at the greatest one
pub digits-capped : (base most n : ℕ) (ds : List ℕ) → 1 ≤ base → min (digits_value_after base (min n most) ds) most ≡ min (digits_value_after base n ds) most
digits-capped base most n [] b = omega arith
digits-capped base most n (c ∷ ds) b =
    sym (digits-capped base most (min n most * base + digit_value c) ds b)
    ∙ (ap (λ k. min (digits_value_after base k ds) most) (one_digit base most n (digit_value c) b)
    ∙ digits-capped base most (n * base + digit_value c) ds b)

-- one more digit, each step cut at the greatest number
pub digit-capped : (base most n d : ℕ) → min (min (n * base) most + d) most ≡ min (n * base + d) most
digit-capped base most n d = omega arith

-- a run of digits goes on by a digit
pub number-goes_on : (base most n d m : ℕ) (c : ℕ) (cs ds : List ℕ) → 1 ≤ base → cs ≡ c ∷ ds → is_digit_of base c ≡ true → d ≡ digit_value c → m ≡ min (min (n * base) most + d) most
    → min (digits_value_after base m (run (is_digit_of base) ds)) most ≡ min (digits_value_after base n (run (is_digit_of base) cs)) most
number-goes_on base most n d m c cs ds b q p v e =
    let first : m ≡ min (n * base + digit_value c) most = e ∙ (digit-capped base most n d ∙ ap (λ k. min (n * base + k) most) v) in
    let later : run (is_digit_of base) cs ≡ c ∷ run (is_digit_of base) ds = ap (run (is_digit_of base)) q ∙ run-passes (is_digit_of base) c ds p in
    ap (λ k. min (digits_value_after base k (run (is_digit_of base) ds)) most) first
    ∙ (digits-capped base most (n * base + digit_value c) (run (is_digit_of base) ds) b
    ∙ ap (λ es. min (digits_value_after base n es) most) (sym later))

-- and stops at what is no digit
pub number-stops : (base most n v : ℕ) (ds : List ℕ) → ds ≡ [] → n ≤ most → min (digits_value_after base n ds) most ≡ v → n ≡ v
number-stops base most n v ds q l e = omega (arith, ap (λ es. min (digits_value_after base n es) most) (sym q) ∙ e)
