-- A region in which a findall is over the oldest choice point.
use Rattle.std.proofs.Common.{◌≡◌, ◌⊎◌, inl, inr, ◌≤◌, List, [], ◌∷◌, length, drop, arith}
use Rattle.au_model.specs.Terms.Each.{Each}
use Rattle.region_split.specs.ChoicePoints.{IsFindallAt, IsCollecting}
use Rattle.region_split.specs.QueryEnds.{AreEndsOldest, IsEnd, StandsForNoEnd}
use Rattle.region_split.specs.Regions.{RegionView}
use Rattle.region_split.specs.declared.choice.Alternatives.{Alternatives}
use Rattle.region_split.specs.declared.choice.Alternatives.TheVariants.{Clauses, Solutions, Elsewhere, Catch, Findall, QueryEnd}
use Rattle.region_split.specs.declared.choice.ChoicePoint.{ChoicePoint}
use Rattle.region_capture.specs.CapturedRegions.{IsCaptureFloor}

no_end : (a : Alternatives) → IsCollecting a → IsEnd a → ⊥
no_end (Clauses goal clause left) h e = e
no_end (Solutions left) h e = e
no_end Elsewhere h e = e
no_end (Catch catcher recovery) h e = e
no_end (Findall list results) h e = e
no_end QueryEnd h e = h

first_own : (cs : List ChoicePoint) → AreEndsOldest cs → IsFindallAt cs 0 → Each StandsForNoEnd cs
first_own [] ends h = tt
first_own (c ∷ cs) (inl e) h = absurd (no_end c.alternatives h e.0)
first_own (c ∷ cs) (inr e) h = e

own_from : (cs : List ChoicePoint) → AreEndsOldest cs → IsFindallAt cs 1 → (1 ≤ length cs) × Each StandsForNoEnd (drop 1 cs)
own_from [] ends h = absurd h
own_from (c ∷ cs) (inl e) h = (omega arith, first_own cs e.1 h)
own_from (c ∷ cs) (inr e) h = (omega arith, e.1)

pub floor_under : (r : RegionView) → AreEndsOldest r.choices → IsFindallAt r.choices 1 → IsCaptureFloor 1 r
floor_under r ends h = let own = own_from r.choices ends h in record { some = omega arith; many = own.0; own = own.1 }
