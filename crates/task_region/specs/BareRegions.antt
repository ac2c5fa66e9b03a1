-- A region over a bare floor: its oldest choice points are the ends of the floor.
use Rattle.std.specs.Prelude.{◌≡◌, ◌≤◌, ◌<◌, ℕ, List, length}
use Rattle.au_model.specs.Terms.Each.{Each}
use Rattle.au_model.specs.Terms.Named.{NamedTerm}
use Rattle.run_model.specs.Machine.Entries.{Entry}
use Rattle.tree_model.specs.Levels.{Level}
use Rattle.region_split.specs.ChoicePoints.{height_of_cut}
use Rattle.region_split.specs.QueryEnds.{IsEnd, AreEndsOldest}
use Rattle.region_split.specs.Regions.{RegionView, entries_of, heights_of}
use Rattle.region_floor.specs.BareFloors.{bare_floor, bare_stack, AreOwn}

-- so many of the oldest choice points stand for one entry each: cuts to them are those to heights of the floor, and no others are
pub record IsOverFloor (floor : ℕ) (named : List NamedTerm) (r : RegionView) : Type 0 where
  pub many : floor ≤ length r.choices
  pub below : (cut : ℕ) → cut ≤ floor → height_of_cut (heights_of named r) cut ≡ cut
  pub above : (cut : ℕ) → floor ≤ cut → cut ≤ length r.choices → floor ≤ height_of_cut (heights_of named r) cut

-- a floor of so many ends was put into a region that had no choice point, at what its store had bound
pub record LaysFloor (old new : RegionView) (floor : ℕ) : Type 0 where
  pub entries : (named : List NamedTerm) → entries_of named new ≡ bare_floor floor
  pub below : (named : List NamedTerm) (cut : ℕ) → cut < floor → height_of_cut (heights_of named new) cut ≡ cut
  pub many : length new.choices ≡ floor
  pub ends : Each (λ c. IsEnd c.alternatives) new.choices
  pub text : new.text ≡ old.text
  pub now : new.store.now ≡ old.store.now
  pub start : new.store.floor ≡ old.store.now

-- the ends of queries are under all other choice points, and so they are the floor
abbrev pub EndsAreFloor : Type 0
EndsAreFloor =
    (named : List NamedTerm) (here : RegionView) (levels : List Level) (own : List Entry) → AreEndsOldest here.choices
    → length here.store.marks ≡ length here.choices → AreOwn (length levels) own → entries_of named here ≡ bare_stack levels own
    → IsOverFloor (length levels) named here
