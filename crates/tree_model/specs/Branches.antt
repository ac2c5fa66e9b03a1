-- How far two places are apart: what a binding array has to leave and to take (Warren 1987).
use Rattle.std.specs.Prelude.{ℕ, ◌+◌, ◌==◌, Bool, cond, List, [], ◌∷◌}
use Rattle.std.specs.Cmp.Lexicographic.{pointwise}

-- a node or an alternative on a branch, by its number or by its number and index, and the bindings of its segment
pub record Leg : Type 0 where
  pub name : List ℕ
  pub bindings : ℕ

abbrev pub same_leg : Leg → Leg → Bool
same_leg a b = pointwise (λ m n. m == n) a.name b.name

-- segments, and the bindings in them
abbrev pub weight : List Leg → ℕ
weight [] = 0
weight (a ∷ legs) = (1 + a.bindings) + weight legs

-- what is in either past the longest common prefix
abbrev pub distance : List Leg → List Leg → ℕ
distance [] bs = weight bs
distance (a ∷ legs) [] = weight (a ∷ legs)
distance (a ∷ legs) (b ∷ bs) = cond (same_leg a b) (distance legs bs) (weight (a ∷ legs) + weight (b ∷ bs))
