-- Marks by their places.
use Rattle.std.proofs.Common.{◌≡◌, ℕ, zero, suc, ◌<◌, List, [], ◌∷◌, ◌++◌, length, refl, ap, arith}

-- a list with an element at a place
pub record HasAt {A : Type 0} (xs : List A) (i : ℕ) : Type 0 where
  pub before : List A
  pub element : A
  pub after : List A
  pub are : xs ≡ before ++ element ∷ after
  pub long : i ≡ length before

pub has_at : {A : Type 0} (xs : List A) (i : ℕ) → i < length xs → HasAt xs i
has_at [] i lt = absurd (omega (arith, lt))
has_at (x ∷ xs) zero lt = record { before = []; element = x; after = xs; are = refl; long = refl }
has_at (x ∷ xs) (suc i) lt = let h = has_at xs i (omega (arith, lt)) in record { before = x ∷ h.before; element = h.element; after = h.after; are = ap (λ ys. x ∷ ys) h.are; long = let l = h.long in omega (arith, l) }
