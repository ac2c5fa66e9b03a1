-- How many numbers a test holds of, and an order by size.
use Rattle.std.proofs.Common.{◌≡◌, ℕ, zero, suc, ◌+◌, ◌*◌, ◌<◌, ◌≤◌, Bool, true, false, nat_lt, ◌==◌, refl, sym, ap, ◌∙◌, arith}
use Rattle.std.proofs.Math.Nat.{mul-le-mul_right}
use Rattle.std.proofs.lemmas.Bool.Decides.{nat_tests}

abbrev pub flag : Bool → ℕ
flag true = 1
flag false = 0

-- how many numbers below one
abbrev pub tally : ℕ → (ℕ → Bool) → ℕ
tally zero f = 0
tally (suc n) f = flag (f n) + tally n f

flags : (a b : Bool) → (a ≡ true → b ≡ true) → flag a ≤ flag b
flags true true h = omega arith
flags true false h = absurd (let e = h refl in cc)
flags false b h = omega arith

pub tally-le : (n : ℕ) (f g : ℕ → Bool) → ((u : ℕ) → f u ≡ true → g u ≡ true) → tally n f ≤ tally n g
tally-le zero f g h = omega arith
tally-le (suc n) f g h = omega (arith, flags (f n) (g n) (h n), tally-le n f g h)

pub tally-lt : (n w : ℕ) (f g : ℕ → Bool) → ((u : ℕ) → f u ≡ true → g u ≡ true) → w < n → f w ≡ false → g w ≡ true → tally n f < tally n g
tally-lt zero w f g h lt out within = absurd (omega arith)
tally-lt (suc n) w f g h lt out within = by_test (w == n) refl (tally-lt n w f g h)
  where
    by_test : (b : Bool) → (w == n) ≡ b → (w < n → f w ≡ false → g w ≡ true → tally n f < tally n g) → tally (suc n) f < tally (suc n) g
    by_test true e below =
        let same : w ≡ n = grind (arith, nat_tests) in
        let first : flag (f n) ≡ 0 = ap flag (ap f (sym same) ∙ out) in
        let second : flag (g n) ≡ 1 = ap flag (ap g (sym same) ∙ within) in
        omega (arith, tally-le n f g h)
    by_test false e below =
        let further : w < n = grind (arith, nat_tests) in
        omega (arith, flags (f n) (g n) (h n), below further out within)

pub tally-within : (n : ℕ) (f : ℕ → Bool) → tally n f ≤ n
tally-within zero f = omega arith
tally-within (suc n) f = omega (arith, one (f n), tally-within n f)
  where
    one : (b : Bool) → flag b ≤ 1
    one true = omega arith
    one false = omega arith

-- the smaller first, and of those of one size the lower number
abbrev pub place_by_size : ℕ → (ℕ → ℕ) → ℕ → ℕ
place_by_size n size v = size v * n + v

pub smaller_first : (n : ℕ) (size : ℕ → ℕ) (w v : ℕ) → size w < size v → w < n → place_by_size n size w < place_by_size n size v
smaller_first n size w v h lt = let m : suc (size w) * n ≤ size v * n = mul-le-mul_right n h in let e : suc (size w) * n ≡ n + size w * n = grind arith in omega arith

pub lower_first : (n : ℕ) (size : ℕ → ℕ) (w v : ℕ) → size w ≡ size v → w < v → place_by_size n size w < place_by_size n size v
lower_first n size w v e lt = let m : size w * n ≡ size v * n = ap (λ k. k * n) e in omega arith

-- how many come before
abbrev pub rank : ℕ → (ℕ → ℕ) → ℕ → ℕ
rank n size v = tally n (λ u. nat_lt (place_by_size n size u) (place_by_size n size v))

pub rank-lt : (n : ℕ) (size : ℕ → ℕ) (w v : ℕ) → w < n → place_by_size n size w < place_by_size n size v → rank n size w < rank n size v
rank-lt n size w v lt h =
    tally-lt n w (λ u. nat_lt (place_by_size n size u) (place_by_size n size w)) (λ u. nat_lt (place_by_size n size u) (place_by_size n size v)) (λ u k. further (place_by_size n size u) k) lt itself before
  where
    further : (p : ℕ) → nat_lt p (place_by_size n size w) ≡ true → nat_lt p (place_by_size n size v) ≡ true
    further p k = grind (arith, nat_tests)

    itself : nat_lt (place_by_size n size w) (place_by_size n size w) ≡ false
    itself = grind (arith, nat_tests)

    before : nat_lt (place_by_size n size w) (place_by_size n size v) ≡ true
    before = grind (arith, nat_tests)
