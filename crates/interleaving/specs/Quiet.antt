-- Elements that only count inferences, give records, or go.
use Rattle.std.specs.Prelude.{ℕ, ◌+◌, List, [], ◌∷◌, ◌++◌}
use Rattle.tree_model.specs.Elements.{Record, Element, Credit, Plain, EndOf, Catch, Findall, End}

abbrev pub IsQuiet : List Element → Type 0
IsQuiet [] = Unit {0}
IsQuiet (Credit k rs ∷ xs) = IsQuiet xs
IsQuiet (EndOf s ∷ xs) = IsQuiet xs
IsQuiet (Catch s u c r p f ∷ xs) = IsQuiet xs
IsQuiet (Plain p f ∷ xs) = ⊥
IsQuiet (Findall s u results list p f ∷ xs) = ⊥
IsQuiet (End p b ∷ xs) = ⊥

-- the sum of the credits
abbrev pub inferences : List Element → ℕ
inferences [] = 0
inferences (Credit k rs ∷ xs) = k + inferences xs
inferences (EndOf s ∷ xs) = inferences xs
inferences (Catch s u c r p f ∷ xs) = inferences xs
inferences (Plain p f ∷ xs) = inferences xs
inferences (Findall s u results list p f ∷ xs) = inferences xs
inferences (End p b ∷ xs) = inferences xs

-- their records, in their order
abbrev pub records : List Element → List Record
records [] = []
records (Credit k rs ∷ xs) = rs ++ records xs
records (EndOf s ∷ xs) = records xs
records (Catch s u c r p f ∷ xs) = records xs
records (Plain p f ∷ xs) = records xs
records (Findall s u results list p f ∷ xs) = records xs
records (End p b ∷ xs) = records xs

-- no Findall entry: what records don't change
abbrev pub IsFixed : Element → Type 0
IsFixed (Findall s u results list p f) = ⊥
IsFixed (Credit k rs) = Unit {0}
IsFixed (EndOf s) = Unit {0}
IsFixed (Catch s u c r p f) = Unit {0}
IsFixed (Plain p f) = Unit {0}
IsFixed (End p b) = Unit {0}

-- credits without records, and ends of scopes: they see nothing
abbrev pub IsStill : Element → Type 0
IsStill (Credit k []) = Unit {0}
IsStill (Credit k (r ∷ rs)) = ⊥
IsStill (EndOf s) = Unit {0}
IsStill (Catch s u c r p f) = ⊥
IsStill (Plain p f) = ⊥
IsStill (Findall s u results list p f) = ⊥
IsStill (End p b) = ⊥
