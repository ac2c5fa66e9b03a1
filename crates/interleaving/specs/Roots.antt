-- Names that belong to a segment: those that extend one, or those whose last number is among some.
use Rattle.std.specs.Prelude.{ℕ, Bool, false, ◌||◌, List, [], ◌∷◌, ◌++◌, length, ◌≡◌}
use Rattle.tree_model.specs.Elements.{Name, same}
use Rattle.interleaving.specs.Views.{IsGrown}

abbrev pub extends : Name → Name → Bool
extends top [] = same top []
extends top (i ∷ s) = same top (i ∷ s) || extends top s

abbrev pub rooted : (ℕ → Bool) → Name → Bool
rooted ok [] = false
rooted ok (i ∷ []) = ok i
rooted ok (i ∷ j ∷ s) = rooted ok (j ∷ s)

-- what is made inside is inside, and a name is told from those that extend it by its length or by its last number
pub record AreDistinguished : Type 0 where
  pub extend : (top : Name) → IsGrown (extends top)
  pub root : (ok : ℕ → Bool) → IsGrown (rooted ok)
  pub by_length : (top p : Name) (more : List ℕ) → length p ≡ length top → extends top (more ++ p) ≡ same top p
  pub by_root : (ok : ℕ → Bool) (i : ℕ) (p : Name) (more : List ℕ) → rooted ok (more ++ i ∷ p) ≡ rooted ok (i ∷ p)
