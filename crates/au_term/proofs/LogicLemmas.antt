-- Tests joined by `and`, `or` and `not`, tests of numbers, and what contradicts itself.
use Rattle.std.proofs.Common.{◌≡◌, ℕ, ◌<◌, ◌≤◌, Bool, true, false, ◌&&◌, ◌||◌, not, ◌==◌, nat_le, nat_lt, refl, arith}
use Rattle.std.proofs.lemmas.Bool.Decides.{nat_tests}

pub both : (a b : Bool) → (a && b) ≡ true → (a ≡ true) × (b ≡ true)
both true b h = (refl, h)
both false b h = absurd cc

pub and-left : (a b : Bool) → (a && b) ≡ true → a ≡ true
and-left a b h = (both a b h).0

pub and-right : (a b : Bool) → (a && b) ≡ true → b ≡ true
and-right a b h = (both a b h).1

pub and-both : (a b : Bool) → a ≡ true → b ≡ true → (a && b) ≡ true
and-both a b h k = rw (h, k) refl

pub and-false : (a : Bool) → (a && false) ≡ false
and-false true = refl
and-false false = refl

pub neither : (a b : Bool) → (a || b) ≡ false → (a ≡ false) × (b ≡ false)
neither true b h = absurd cc
neither false b h = (refl, h)

pub or-left : (a b : Bool) → (a || b) ≡ false → a ≡ false
or-left a b h = (neither a b h).0

pub or-right : (a b : Bool) → (a || b) ≡ false → b ≡ false
or-right a b h = (neither a b h).1

pub not-true : (a : Bool) → not a ≡ true → a ≡ false
not-true true h = absurd cc
not-true false h = refl

pub same_number : (m n : ℕ) → (m == n) ≡ true → m ≡ n
same_number m n h = grind (arith, nat_tests)

pub numbers_turned : (m n : ℕ) → (m == n) ≡ false → (n == m) ≡ false
numbers_turned m n h = grind (arith, nat_tests)

pub false_true : {A : Type 0} → false ≡ true → A
false_true h = let no_way : ⊥ = cc in absurd no_way

pub true_false : true ≡ false → ⊥
true_false h = cc

pub none_true : (a b : Bool) → a ≡ false → b ≡ false → (a || b) ≡ false
none_true false b h k = k
none_true true b h k = absurd (true_false h)

pub number_same : (n : ℕ) → (n == n) ≡ true
number_same n = grind (arith, nat_tests)

pub number_turned : (m n : ℕ) → (m == n) ≡ (n == m)
number_turned m n = grind (arith, nat_tests)

pub not_equal : (m n : ℕ) → m < n → (m == n) ≡ false
not_equal m n h = grind (arith, nat_tests)

pub not_less : (p q : ℕ) → q ≤ p → nat_lt p q ≡ false
not_less p q l = grind (arith, nat_tests)

pub less : (p q : ℕ) → p < q → nat_lt p q ≡ true
less p q l = grind (arith, nat_tests)

pub le_by : (a b : ℕ) → nat_le a b ≡ true → a ≤ b
le_by a b h = grind (arith, nat_tests)

pub not_lt_by : (a b : ℕ) → nat_lt a b ≡ false → b ≤ a
not_lt_by a b h = grind (arith, nat_tests)

pub or_false : (b : Bool) → (b || false) ≡ b
or_false true = refl
or_false false = refl
