-- Places of clauses in rising order.
use Rattle.std.specs.Prelude.{ℕ, suc, Bool, cond, nat_lt, List, [], ◌∷◌, ◌++◌, take, drop, ◌≡◌}
use Rattle.run_model.specs.Programs.Clauses.{Clause as ClauseTerms}

-- the places of the clauses that pass a test, where the first has this place
abbrev pub places_from : ℕ → (ClauseTerms → Bool) → List ClauseTerms → List ℕ
places_from i p [] = []
places_from i p (c ∷ cs) = cond (p c) (i ∷ places_from (suc i) p cs) (places_from (suc i) p cs)

abbrev pub places : (ClauseTerms → Bool) → List ClauseTerms → List ℕ
places p clauses = places_from 0 p clauses

-- a place before the greater ones of a list, and the rest of both merged
abbrev pub put_in : ℕ → List ℕ → (List ℕ → List ℕ) → List ℕ
put_in v [] rest = v ∷ rest []
put_in v (k ∷ ks) rest = cond (nat_lt v k) (v ∷ rest (k ∷ ks)) (k ∷ put_in v ks rest)

-- two lists of places in rising order as one
abbrev pub merged : List ℕ → List ℕ → List ℕ
merged [] ks = ks
merged (v ∷ vs) ks = put_in v ks (merged vs)

-- the clauses at places
abbrev pub clauses_at : List ClauseTerms → List ℕ → List ClauseTerms
clauses_at clauses [] = []
clauses_at clauses (i ∷ is) = take 1 (drop i clauses) ++ clauses_at clauses is

-- none was left, or the least was taken
abbrev pub HasNoneLeft : List ℕ → List ℕ → Type 0
HasNoneLeft left right = merged left right ≡ []

abbrev pub IsLeastTaken : List ℕ → List ℕ → ℕ → List ℕ → List ℕ → Type 0
IsLeastTaken left right place rest others = merged left right ≡ place ∷ merged rest others
