-- Numbers of heads.
use Rattle.std.proofs.Common.{◌≡◌, ℕ, suc, ◌+◌, ◌<◌, ◌≤◌, Bool, true, false, cond, ◌&&◌, ◌||◌, nat_lt, List, [], ◌∷◌, length, Some, refl, ap, ap₂, ◌∙◌, arith}
use Rattle.std.specs.Option.{is_some}
use Rattle.std.specs.List.{list_any}
use Rattle.std.proofs.lemmas.Bool.Decides.{nat_tests}
use Rattle.au_model.specs.Terms.Each.{Each}
use Rattle.proc_index.specs.Places.{merged, put_in}
use Rattle.proc_index.proofs.PlacesLemmas.{put_in_front, merged_front}
use Rattle.clause_index.specs.declared.key.HeadKey.{HeadKey}
use Rattle.clause_index.specs.Numbers.{head_numbers_from, first_from}
use Rattle.clause_index.specs.Cursors.{IsNumberBelow}

numbers_above : (i j : ℕ) (p : HeadKey → Bool) (hs : List HeadKey) → i < j → Each (λ k. i < k) (head_numbers_from j p hs)
numbers_above i j p [] lt = tt
numbers_above i j p (h ∷ hs) lt = by_test (p h) (numbers_above i (suc j) p hs (omega arith))
  where
    by_test : (v : Bool) → Each (λ k. i < k) (head_numbers_from (suc j) p hs) → Each (λ k. i < k) (cond v (j ∷ head_numbers_from (suc j) p hs) (head_numbers_from (suc j) p hs))
    by_test true r = (lt, r)
    by_test false r = r

-- the numbers of two tests that no head passes both
pub merged_numbers : (i : ℕ) (p q : HeadKey → Bool) (hs : List HeadKey) → ((h : HeadKey) → (p h && q h) ≡ false) → merged (head_numbers_from i p hs) (head_numbers_from i q hs) ≡ head_numbers_from i (λ h. p h || q h) hs
merged_numbers i p q [] d = refl
merged_numbers i p q (h ∷ hs) d = by_tests (p h) (q h) (d h) (merged_numbers (suc i) p q hs d)
  where
    by_tests : (v w : Bool) → (v && w) ≡ false → merged (head_numbers_from (suc i) p hs) (head_numbers_from (suc i) q hs) ≡ head_numbers_from (suc i) (λ c. p c || q c) hs
        → merged (cond v (i ∷ head_numbers_from (suc i) p hs) (head_numbers_from (suc i) p hs)) (cond w (i ∷ head_numbers_from (suc i) q hs) (head_numbers_from (suc i) q hs)) ≡ cond (v || w) (i ∷ head_numbers_from (suc i) (λ c. p c || q c) hs) (head_numbers_from (suc i) (λ c. p c || q c) hs)
    by_tests true true e r = absurd cc
    by_tests true false e r = put_in_front i (head_numbers_from (suc i) q hs) (merged (head_numbers_from (suc i) p hs)) (numbers_above i (suc i) q hs (omega arith)) ∙ ap (λ ks. i ∷ ks) r
    by_tests false true e r = merged_front (head_numbers_from (suc i) p hs) i (head_numbers_from (suc i) q hs) (numbers_above i (suc i) p hs (omega arith)) ∙ ap (λ ks. i ∷ ks) r
    by_tests false false e r = r

pub same_numbers : (i : ℕ) (p q : HeadKey → Bool) (hs : List HeadKey) → ((h : HeadKey) → p h ≡ q h) → head_numbers_from i p hs ≡ head_numbers_from i q hs
same_numbers i p q [] e = refl
same_numbers i p q (h ∷ hs) e = ap₂ (λ b ks. cond b (i ∷ ks) ks) (e h) (same_numbers (suc i) p q hs e)

pub first_below : (i : ℕ) (p : HeadKey → Bool) (hs : List HeadKey) (n : ℕ) → i + length hs ≤ n → IsNumberBelow n (first_from i p hs)
first_below i p [] n le = tt
first_below i p (h ∷ hs) n le = by_test (p h) (first_below (suc i) p hs n (omega arith))
  where
    by_test : (v : Bool) → IsNumberBelow n (first_from (suc i) p hs) → IsNumberBelow n (cond v (Some i) (first_from (suc i) p hs))
    by_test true r = omega arith
    by_test false r = r

pub some_first : (i : ℕ) (p q : HeadKey → Bool) (hs : List HeadKey) → ((h : HeadKey) → p h ≡ q h) → is_some (first_from i p hs) ≡ list_any q hs
some_first i p q [] e = refl
some_first i p q (h ∷ hs) e = by_test (p h) (q h) (e h) (some_first (suc i) p q hs e)
  where
    by_test : (v w : Bool) → v ≡ w → is_some (first_from (suc i) p hs) ≡ list_any q hs → is_some (cond v (Some i) (first_from (suc i) p hs)) ≡ (w || list_any q hs)
    by_test true true d r = refl
    by_test true false d r = absurd cc
    by_test false true d r = absurd cc
    by_test false false d r = r

-- the least of two lists' first numbers comes first
pub least_left : (v k : ℕ) (vs ks : List ℕ) → v < k → merged (v ∷ vs) (k ∷ ks) ≡ v ∷ merged vs (k ∷ ks)
least_left v k vs ks lt =
    let less : nat_lt v k ≡ true = grind (arith, nat_tests) in
    ap (λ b. cond b (v ∷ merged vs (k ∷ ks)) (k ∷ put_in v ks (merged vs))) less

pub least_right : (v k : ℕ) (vs ks : List ℕ) → k ≤ v → merged (v ∷ vs) (k ∷ ks) ≡ k ∷ merged (v ∷ vs) ks
least_right v k vs ks le =
    let less : nat_lt v k ≡ false = grind (arith, nat_tests) in
    ap (λ b. cond b (v ∷ merged vs (k ∷ ks)) (k ∷ put_in v ks (merged vs))) less
