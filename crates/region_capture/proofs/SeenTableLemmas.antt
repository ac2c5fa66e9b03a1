-- A table of which variables were seen.
use Rattle.std.proofs.Common.{◌≡◌, ℕ, zero, suc, ◌+◌, ◌-◌, ◌<◌, ◌≤◌, ◌==◌, Bool, true, false, cond, List, [], ◌∷◌, ◌++◌, length, get_or, replicate, set, inl, inr, refl, sym, ap, ◌∙◌, subst, arith}
use Rattle.std.proofs.lemmas.Bool.{cases_lt}
use Rattle.std.proofs.lemmas.Bool.Decides.{nat_tests}
use Rattle.std.proofs.lemmas.List.{length-append, get_or_append_left, get_or-append_right, set-append_left, set-append_right, replicate-append-replicate}
use Rattle.region_capture.specs.SeenVariables.{told_below}

pub told_many : (f : ℕ → Bool) (n : ℕ) → length (told_below f n) ≡ n
told_many f zero = refl
told_many f (suc n) = let h = told_many f n in omega (arith, length-append (told_below f n) (f n ∷ []), h)

-- what a table tells of a number is what the test tells
pub told_at : (f : ℕ → Bool) (n i : ℕ) (d : Bool) → i < n → get_or (told_below f n) i d ≡ f i
told_at f zero i d lt = absurd (omega (arith, lt))
told_at f (suc n) i d lt =
    let many = told_many f n in
    elim (cases_lt i n) [
      | inl l ↦ get_or_append_left (told_below f n) (f n ∷ []) d i (omega (arith, l, many)) ∙ told_at f n i d l
      | inr l ↦
          (let here : i ≡ n = omega (arith, l, lt) in
          let none : i - n ≡ 0 = omega (arith, here) in
          get_or-append_right (told_below f n) (f n ∷ []) n i d many (omega (arith, here))
          ∙ (ap (λ (k : ℕ). get_or (f n ∷ []) k d) none ∙ ap f (sym here)))
    ]

told_same : (f g : ℕ → Bool) (n : ℕ) → ((q : ℕ) → q < n → g q ≡ f q) → told_below g n ≡ told_below f n
told_same f g zero same = refl
told_same f g (suc n) same =
    ap (λ (xs : List Bool). xs ++ g n ∷ []) (told_same f g n (λ q lt. same q (omega (arith, lt))))
    ∙ ap (λ (b : Bool). told_below f n ++ b ∷ []) (same n (omega arith))

-- where another test tells something else of one number alone
module _ (f g : ℕ → Bool) (k : ℕ) (b : Bool) (changed : (q : ℕ) → g q ≡ cond (k == q) b (f q)) where
  others : (q : ℕ) (t : Bool) → (k == q) ≡ t → t ≡ false → g q ≡ f q
  others q t e differs = changed q ∙ ap (λ (x : Bool). cond x b (f q)) (e ∙ differs)

  other : (q : ℕ) → (k ≡ q → ⊥) → g q ≡ f q
  other q ne = by_test (k == q) refl
    where
      by_test : (t : Bool) → (k == q) ≡ t → g q ≡ f q
      by_test true e = let same : k ≡ q = grind (arith, nat_tests) in absurd (ne same)
      by_test false e = others q false e refl

  here : g k ≡ b
  here = by_test (k == k) refl
    where
      by_test : (t : Bool) → (k == k) ≡ t → g k ≡ b
      by_test true e = changed k ∙ ap (λ (x : Bool). cond x b (f k)) e
      by_test false e = let wrong : ⊥ = grind (arith, nat_tests) in absurd wrong

  pub told_set : (n : ℕ) → k < n → told_below g n ≡ set (told_below f n) k b
  told_set zero lt = absurd (omega (arith, lt))
  told_set (suc n) lt =
      let many = told_many f n in
      elim (cases_lt k n) [
        | inl l ↦
            ap (λ (xs : List Bool). xs ++ g n ∷ []) (told_set n l)
            ∙ (ap (λ (x : Bool). set (told_below f n) k b ++ x ∷ []) (other n (λ e. absurd (omega (arith, l, e))))
            ∙ sym (set-append_left (told_below f n) (f n ∷ []) k b (omega (arith, l, many))))
        | inr l ↦
            (let at : k ≡ n = omega (arith, l, lt) in
            let none : k - n ≡ 0 = omega (arith, at) in
            let last : g n ≡ b = subst (λ (m : ℕ). g m ≡ b) at here in
            ap (λ (xs : List Bool). xs ++ g n ∷ []) (told_same f g n (λ q lt. other q (λ e. absurd (omega (arith, lt, e, at)))))
            ∙ (ap (λ (x : Bool). told_below f n ++ x ∷ []) last
            ∙ sym (set-append_right (told_below f n) (f n ∷ []) n k b many (omega (arith, at)) ∙ ap (λ (i : ℕ). told_below f n ++ set (f n ∷ []) i b) none)))
      ]

  -- before what is told of further numbers
  pub told_set_before : (n : ℕ) (later : List Bool) → k < n → told_below g n ++ later ≡ set (told_below f n ++ later) k b
  told_set_before n later lt =
      let many = told_many f n in
      ap (λ (xs : List Bool). xs ++ later) (told_set n lt) ∙ sym (set-append_left (told_below f n) later k b (omega (arith, lt, many)))

module _ (f : ℕ → Bool) (n : ℕ) where
  pub none_told : ((q : ℕ) → f q ≡ false) → told_below f n ≡ replicate n false
  none_told none = by_number n
    where
      by_number : (m : ℕ) → told_below f m ≡ replicate m false
      by_number zero = refl
      by_number (suc m) =
          let back : m + 1 ≡ suc m = omega arith in
          ap (λ (xs : List Bool). xs ++ f m ∷ []) (by_number m)
          ∙ (ap (λ (b : Bool). replicate m false ++ b ∷ []) (none m)
          ∙ (replicate-append-replicate m 1 false ∙ ap (λ (k : ℕ). replicate k false) back))

  pub none_seen : ((q : ℕ) → f q ≡ false) → (next : ℕ) → n ≤ next → told_below f n ++ replicate (next - n) false ≡ replicate next false
  none_seen none next le =
      let back : n + (next - n) ≡ next = omega (arith, le) in
      ap (λ (xs : List Bool). xs ++ replicate (next - n) false) (none_told none)
      ∙ (replicate-append-replicate n (next - n) false ∙ ap (λ (k : ℕ). replicate k false) back)

  module _ (later : List Bool) (i : ℕ) where
    pub told_before : (d : Bool) → i < n → get_or (told_below f n ++ later) i d ≡ f i
    told_before d lt = let many = told_many f n in get_or_append_left (told_below f n) later d i (omega (arith, lt, many)) ∙ told_at f n i d lt

    pub told_after : (d : Bool) → n ≤ i → get_or (told_below f n ++ later) i d ≡ get_or later (i - n) d
    told_after d le = get_or-append_right (told_below f n) later n i d (told_many f n) le

    pub set_after : (b : Bool) → n ≤ i → told_below f n ++ set later (i - n) b ≡ set (told_below f n ++ later) i b
    set_after b le = sym (set-append_right (told_below f n) later n i b (told_many f n) le)

    pub within_later : n ≤ i → i < length (told_below f n ++ later) → i - n < length later
    within_later le lt = let many = told_many f n in omega (arith, le, lt, many, length-append (told_below f n) later)

-- within a table it does not matter what is told of the others
pub told_anyway : (xs : List Bool) (i : ℕ) (a b : Bool) → i < length xs → get_or xs i a ≡ get_or xs i b
told_anyway [] i a b lt = absurd (omega (arith, lt))
told_anyway (x ∷ xs) zero a b lt = refl
told_anyway (x ∷ xs) (suc i) a b lt = told_anyway xs i a b (omega (arith, lt))
