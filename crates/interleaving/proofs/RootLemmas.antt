-- Names told apart.
use Rattle.std.proofs.Common.{◌≡◌, ℕ, suc, ◌≤◌, Bool, true, false, ◌||◌, List, [], ◌∷◌, ◌++◌, length, length-append, refl, sym, ap, ◌∙◌}
use Rattle.std.proofs.Common.{arith}
use Rattle.std.proofs.lemmas.Bool.{false≢true}
use Rattle.tree_model.specs.Elements.{Name, same}
use Rattle.interleaving.specs.Views.{IsGrown}
use Rattle.interleaving.specs.Roots.{extends, rooted, AreDistinguished}
use Rattle.interleaving.proofs.ApartLemmas.{same-true}
use Rattle.au_model.proofs.ApplyLemmas.{or_right}

either_false : (a b : Bool) → a ≡ false → (a || b) ≡ b
either_false true b e = absurd (false≢true (sym e))
either_false false b e = refl

right_false : (a b : Bool) → b ≡ false → (a || b) ≡ a
right_false true b e = refl
right_false false b e = e

grown : (top : Name) → IsGrown (extends top)
grown top i s h = or_right (same top (i ∷ s)) (extends top s) h

rooted-grown : (ok : ℕ → Bool) → IsGrown (rooted ok)
rooted-grown ok i [] h = absurd (false≢true h)
rooted-grown ok i (j ∷ s) h = h

not_same_length : (a b : Name) → (length a ≡ length b → ⊥) → same a b ≡ false
not_same_length a b n = go (same a b) refl
  where
    go : (t : Bool) → same a b ≡ t → t ≡ false
    go true e = absurd (n (ap length (same-true a b e)))
    go false e = refl

-- a shorter name extends nothing longer
short : (top s : Name) → suc (length s) ≤ length top → extends top s ≡ false
short top [] h = not_same_length top [] (λ e. absurd (omega (arith, e)))
short top (i ∷ s) h = either_false (same top (i ∷ s)) (extends top s) (not_same_length top (i ∷ s) (λ e. absurd (omega (arith, e))))
    ∙ short top s (omega arith)

same_size : (top p : Name) → length p ≡ length top → extends top p ≡ same top p
same_size top [] e = refl
same_size top (i ∷ p) e = right_false (same top (i ∷ p)) (extends top p) (short top p (omega arith))

by_length : (top p : Name) (more : List ℕ) → length p ≡ length top → extends top (more ++ p) ≡ same top p
by_length top p [] e = same_size top p e
by_length top p (i ∷ more) e =
    either_false (same top (i ∷ (more ++ p))) (extends top (more ++ p))
    (not_same_length top (i ∷ (more ++ p)) (λ k. absurd (omega (arith, k, length-append more p)))) ∙ by_length top p more e

by_root : (ok : ℕ → Bool) (i : ℕ) (p : Name) (more : List ℕ) → rooted ok (more ++ i ∷ p) ≡ rooted ok (i ∷ p)
by_root ok i p [] = refl
by_root ok i p (j ∷ []) = refl
by_root ok i p (j ∷ k ∷ more) = by_root ok i p (k ∷ more)

pub are_distinguished : AreDistinguished
are_distinguished = record { extend = grown; root = rooted-grown; by_length = by_length; by_root = by_root }
