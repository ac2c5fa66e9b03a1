-- The ends of queries stay the oldest choice points.
use Rattle.std.proofs.Common.{◌≡◌, ◌⊎◌, inl, inr, ℕ, zero, suc, ◌+◌, List, [], ◌∷◌, ◌++◌, length, take, sym, ◌∙◌, arith}
use Rattle.au_model.specs.Terms.Each.{Each}
use Rattle.au_model.proofs.EachLemmas.{each-append}
use Rattle.region_split.specs.ChoicePoints.{RegionSetting, AreAlternativesAt, AreChoicesOver}
use Rattle.region_split.specs.QueryEnds.{IsEnd, StandsForNoEnd, AreEndsAtFloor, AreEndsOldest, MayComeOver}
use Rattle.cell_store.specs.StoreView.{Moment}
use Rattle.region_split.specs.declared.choice.Alternatives.{Alternatives}
use Rattle.region_split.specs.declared.choice.Alternatives.TheVariants.{Clauses, Solutions, Elsewhere, Catch, Findall, QueryEnd}
use Rattle.region_split.specs.declared.choice.ChoicePoint.{ChoicePoint}

end_on_top : (cs : List ChoicePoint) (c : ChoicePoint) → IsEnd c.alternatives → Each (λ d. IsEnd d.alternatives) cs → AreEndsOldest (cs ++ c ∷ [])
end_on_top [] c e h = inl (e, tt)
end_on_top (d ∷ cs) c e h = inl (h.0, end_on_top cs c e h.1)

other_on_top : (cs : List ChoicePoint) (c : ChoicePoint) → StandsForNoEnd c → AreEndsOldest cs → AreEndsOldest (cs ++ c ∷ [])
other_on_top [] c n h = inr (n, tt)
other_on_top (d ∷ cs) c n (inl h) = inl (h.0, other_on_top cs c n h.1)
other_on_top (d ∷ cs) c n (inr h) = inr (h.0, each-append StandsForNoEnd cs (c ∷ []) h.1 (n, tt))

may_come : (cs : List ChoicePoint) (a : Alternatives) → MayComeOver cs a → (IsEnd a × Each (λ d. IsEnd d.alternatives) cs) ⊎ (IsEnd a → ⊥)
may_come cs (Clauses goal clause left) h = inr (λ e. e)
may_come cs (Solutions left) h = inr (λ e. e)
may_come cs Elsewhere h = inr (λ e. e)
may_come cs (Catch catcher recovery) h = inr (λ e. e)
may_come cs (Findall list results) h = inr (λ e. e)
may_come cs QueryEnd h = inl (tt, h)

-- one more on top
pub oldest-append : (cs : List ChoicePoint) (c : ChoicePoint) → MayComeOver cs c.alternatives → AreEndsOldest cs → AreEndsOldest (cs ++ c ∷ [])
oldest-append cs c m h = by_kind (may_come cs c.alternatives m)
  where
    by_kind : (IsEnd c.alternatives × Each (λ d. IsEnd d.alternatives) cs) ⊎ StandsForNoEnd c → AreEndsOldest (cs ++ c ∷ [])
    by_kind (inl p) = end_on_top cs c p.0 p.1
    by_kind (inr n) = other_on_top cs c n h

none_in_take : (n : ℕ) (cs : List ChoicePoint) → Each StandsForNoEnd cs → Each StandsForNoEnd (take n cs)
none_in_take zero cs h = tt
none_in_take (suc n) [] h = tt
none_in_take (suc n) (c ∷ cs) h = (h.0, none_in_take n cs h.1)

pub oldest-take : (n : ℕ) (cs : List ChoicePoint) → AreEndsOldest cs → AreEndsOldest (take n cs)
oldest-take zero cs h = tt
oldest-take (suc n) [] h = tt
oldest-take (suc n) (c ∷ cs) (inl h) = inl (h.0, oldest-take n cs h.1)
oldest-take (suc n) (c ∷ cs) (inr h) = inr (none_in_take (suc n) (c ∷ cs) h)

none_before : (xs ys : List ChoicePoint) → Each StandsForNoEnd (xs ++ ys) → Each StandsForNoEnd xs
none_before [] ys h = tt
none_before (x ∷ xs) ys h = (h.0, none_before xs ys h.1)

-- the oldest ones
pub oldest_before : (xs ys : List ChoicePoint) → AreEndsOldest (xs ++ ys) → AreEndsOldest xs
oldest_before [] ys h = tt
oldest_before (x ∷ xs) ys (inl h) = inl (h.0, oldest_before xs ys h.1)
oldest_before (x ∷ xs) ys (inr h) = inr (none_before (x ∷ xs) ys h)

none_changed : (xs ys : List ChoicePoint) (c : ChoicePoint) (a : Alternatives) → (IsEnd a → IsEnd c.alternatives) → Each StandsForNoEnd (xs ++ c ∷ ys) → Each StandsForNoEnd (xs ++ record c { alternatives = a } ∷ ys)
none_changed [] ys c a k h = ((λ e. h.0 (k e)), h.1)
none_changed (x ∷ xs) ys c a k h = (h.0, none_changed xs ys c a k h.1)

-- other alternatives of a choice point, which are an end as it was
pub oldest_changed : (xs ys : List ChoicePoint) (c : ChoicePoint) (a : Alternatives) → (IsEnd c.alternatives → IsEnd a) × (IsEnd a → IsEnd c.alternatives) → AreEndsOldest (xs ++ c ∷ ys) → AreEndsOldest (xs ++ record c { alternatives = a } ∷ ys)
oldest_changed [] ys c a k (inl h) = inl (k.0 h.0, h.1)
oldest_changed [] ys c a k (inr h) = inr (none_changed [] ys c a k.1 h)
oldest_changed (x ∷ xs) ys c a k (inl h) = inl (h.0, oldest_changed xs ys c a k h.1)
oldest_changed (x ∷ xs) ys c a k (inr h) = inr (none_changed (x ∷ xs) ys c a k.1 h)

-- where there is no choice point, an end may come
pub none_yet : (cs : List ChoicePoint) → length cs ≡ 0 → Each (λ c. IsEnd c.alternatives) cs
none_yet [] e = tt
none_yet (c ∷ cs) e = absurd (omega (arith, e))

-- an end came at the floor
end_there : (s : RegionSetting) (m : Moment) (a : Alternatives) → AreAlternativesAt s m a → IsEnd a → m ≡ s.floor
end_there s m (Clauses goal clause left) v e = absurd e
end_there s m (Solutions left) v e = absurd e
end_there s m Elsewhere v e = absurd e
end_there s m (Catch catcher recovery) v e = absurd e
end_there s m (Findall list results) v e = absurd e
end_there s m QueryEnd v e = v

pub ends_at_floor : (s : RegionSetting) (cut frames : ℕ) (cs : List ChoicePoint) (ms : List Moment) → AreChoicesOver s cut frames cs ms → AreEndsAtFloor s.floor cs ms
ends_at_floor s cut frames [] ms k n m e got = absurd e
ends_at_floor s cut frames (c ∷ cs) [] k n m e got = absurd k
ends_at_floor s cut frames (c ∷ cs) (x ∷ ms) k zero m e got = let same : x ≡ m = cc in sym same ∙ end_there s x c.alternatives k.0.values e
ends_at_floor s cut frames (c ∷ cs) (x ∷ ms) k (suc n) m e got = ends_at_floor s (cut + 1) c.frames cs ms k.1 n m e got
