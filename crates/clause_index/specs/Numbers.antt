-- The numbers of heads in a list.
use Rattle.std.specs.Prelude.{ℕ, suc, Bool, cond, List, [], ◌∷◌, Option, Some, None}
use Rattle.clause_index.specs.declared.key.HeadKey.{HeadKey}

-- the numbers of those that pass a test, where the first has this number
abbrev pub head_numbers_from : ℕ → (HeadKey → Bool) → List HeadKey → List ℕ
head_numbers_from i p [] = []
head_numbers_from i p (h ∷ hs) = cond (p h) (i ∷ head_numbers_from (suc i) p hs) (head_numbers_from (suc i) p hs)

abbrev pub numbers : (HeadKey → Bool) → List HeadKey → List ℕ
numbers p heads = head_numbers_from 0 p heads

-- the number of the first one that passes a test
abbrev pub first_from : ℕ → (HeadKey → Bool) → List HeadKey → Option ℕ
first_from i p [] = None
first_from i p (h ∷ hs) = cond (p h) (Some i) (first_from (suc i) p hs)

-- the number in a list of one
abbrev pub only_of : List ℕ → Option ℕ
only_of [] = None
only_of (n ∷ []) = Some n
only_of (n ∷ m ∷ ns) = None
