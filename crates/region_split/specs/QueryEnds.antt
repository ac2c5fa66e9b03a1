-- The ends of queries are the oldest choice points.
use Rattle.std.specs.Prelude.{◌≡◌, ◌⊎◌, ℕ, List, [], ◌∷◌, Some, IsSomeAnd, slice_get}
use Rattle.au_model.specs.Terms.Each.{Each}
use Rattle.cell_store.specs.StoreView.{Moment}
use Rattle.region_split.specs.declared.choice.Alternatives.{Alternatives}
use Rattle.region_split.specs.declared.choice.Alternatives.TheVariants.{Clauses, Solutions, Elsewhere, Catch, Findall, QueryEnd}
use Rattle.region_split.specs.declared.choice.ChoicePoint.{ChoicePoint}

-- the end of a query
abbrev pub IsEnd : Alternatives → Type 0
IsEnd (Clauses goal clause left) = ⊥
IsEnd (Solutions left) = ⊥
IsEnd Elsewhere = ⊥
IsEnd (Catch catcher recovery) = ⊥
IsEnd (Findall list results) = ⊥
IsEnd QueryEnd = Unit {0}

abbrev pub StandsForNoEnd : ChoicePoint → Type 0
StandsForNoEnd c = IsEnd c.alternatives → ⊥

-- the ends of queries are under all other choice points
abbrev pub AreEndsOldest : List ChoicePoint → Type 0
AreEndsOldest [] = Unit {0}
AreEndsOldest (c ∷ cs) = (IsEnd c.alternatives × AreEndsOldest cs) ⊎ Each StandsForNoEnd (c ∷ cs)

-- they came at the floor of the store
abbrev pub AreEndsAtFloor : Moment → List ChoicePoint → List Moment → Type 0
AreEndsAtFloor floor choices moments = (n : ℕ) (m : Moment) → IsSomeAnd (slice_get choices n) (λ c. IsEnd c.alternatives) → slice_get moments n ≡ Some m → m ≡ floor

-- alternatives that may come on top: the end of a query only over ends
abbrev pub MayComeOver : List ChoicePoint → Alternatives → Type 0
MayComeOver choices (Clauses goal clause left) = Unit {0}
MayComeOver choices (Solutions left) = Unit {0}
MayComeOver choices Elsewhere = Unit {0}
MayComeOver choices (Catch catcher recovery) = Unit {0}
MayComeOver choices (Findall list results) = Unit {0}
MayComeOver choices QueryEnd = Each (λ c. IsEnd c.alternatives) choices
