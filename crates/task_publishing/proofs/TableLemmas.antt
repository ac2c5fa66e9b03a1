-- Tables that get longer.
use Rattle.std.proofs.Common.{◌≡◌, ℕ, zero, suc, ◌<◌, ◌≤◌, List, [], ◌∷◌, ◌++◌, length, drop, get_or, slice_get, Option, Some, refl, arith}

-- what holds of each place holds with one more
pub more_hold : {A : Type 0} (P : ℕ → Option A → Type 0) (xs : List A) (x : A) → ((n : ℕ) → n < length xs → P n (slice_get xs n))
    → P (length xs) (Some x)
    → (n : ℕ) → n < length (xs ++ x ∷ []) → P n (slice_get (xs ++ x ∷ []) n)
more_hold P [] x h e zero lt = e
more_hold P [] x h e (suc n) lt = absurd (omega (arith, lt))
more_hold P (y ∷ xs) x h e zero lt = h zero (omega arith)
more_hold P (y ∷ xs) x h e (suc n) lt = more_hold (λ k o. P (suc k) o) xs x (λ k l. h (suc k) (omega (arith, l))) e n (omega (arith, lt))

pub more_got : (P : ℕ → ℕ → Type 0) (xs : List ℕ) (x : ℕ) → ((n : ℕ) → n < length xs → P n (get_or xs n 0)) → P (length xs) x
    → (n : ℕ) → n < length (xs ++ x ∷ []) → P n (get_or (xs ++ x ∷ []) n 0)
more_got P [] x h e zero lt = e
more_got P [] x h e (suc n) lt = absurd (omega (arith, lt))
more_got P (y ∷ xs) x h e zero lt = h zero (omega arith)
more_got P (y ∷ xs) x h e (suc n) lt = more_got (λ k o. P (suc k) o) xs x (λ k l. h (suc k) (omega (arith, l))) e n (omega (arith, lt))

-- what is left behind one more
pub drop_none : {A : Type 0} (k : ℕ) → drop {A = A} k [] ≡ []
drop_none zero = refl
drop_none (suc k) = refl

pub drop_next : {A : Type 0} (k : ℕ) (xs : List A) → drop 1 (drop k xs) ≡ drop (suc k) xs
drop_next zero [] = refl
drop_next zero (x ∷ xs) = refl
drop_next (suc k) [] = refl
drop_next (suc k) (x ∷ xs) = drop_next k xs

pub none_left : {A : Type 0} (k : ℕ) (xs : List A) → drop k xs ≡ [] → length xs ≤ k
none_left k [] e = omega arith
none_left zero (x ∷ xs) e = absurd cc
none_left (suc k) (x ∷ xs) e = let h = none_left k xs e in omega (arith, h)

pub some_left : {A : Type 0} (k : ℕ) (xs : List A) → 0 < length (drop k xs) → k < length xs
some_left zero [] e = absurd (omega (arith, e))
some_left (suc k) [] e = absurd (omega (arith, e))
some_left zero (x ∷ xs) e = omega arith
some_left (suc k) (x ∷ xs) e = let h = some_left k xs e in omega (arith, h)
