-- What is taken off a region above some of its choice points.
use Rattle.std.specs.Prelude.{◌≡◌, ℕ, ◌+◌, ◌-◌, ◌<◌, ◌≤◌, List, ◌++◌, length, drop, take, slice_get, Some}
use Rattle.au_model.specs.Terms.Each.{Each}
use Rattle.au_model.specs.Terms.Named.{NamedTerm}
use Rattle.au_model.specs.Terms.Substitutions.{value_of}
use Rattle.run_model.specs.Laws.Numbering.{IsNamedBelow}
use Rattle.run_model.specs.Machine.Entries.{PlainEntry}
use Rattle.cell_store.specs.StoreView.{Moment}
use Rattle.region_split.specs.ChoicePoints.{height_of_cut}
use Rattle.region_split.specs.QueryEnds.{StandsForNoEnd}
use Rattle.region_split.specs.Regions.{RegionView, entries_of, heights_of, position_entry}
use Rattle.region_split.specs.declared.frame.Position.{Position}
use Rattle.region_capture.specs.CapturedMeanings.{MeantAlternative, MeansAlternative, meant_continuation}
use Rattle.region_capture.specs.CapturedChoices.{BoundThen, MeantChoice, bound_under, CaptureChoices, meant_entries, AreHeightsOf, MarkGuards}
use Rattle.region_capture.specs.declared.captured.Captured.{Captured}

-- there are so many choice points, at least one, and none over them is the end of a query
pub record IsCaptureFloor (floor : ℕ) (r : RegionView) : Type 0 where
  pub some : 1 ≤ floor
  pub many : floor ≤ length r.choices
  pub own : Each StandsForNoEnd (drop floor r.choices)

-- what was bound at a moment
abbrev pub bound_at : Moment → BoundThen
bound_at m = record { bound = m.bound; next = m.next }

-- what was left at a position and above so many choice points was taken off: it means the entry at the position and those of the choice
-- points above, where names are of variables that were there when the newest of the others came; what was bound then was made, choice
-- point by choice point, of what was bound at that time. So much is bound as gives these variables, and all that is left, what they stand for
pub record CapturesRegion (old new : RegionView) (floor : ℕ) (p : Position) (c : Captured) : Type 0 where
  pub start : Moment
  pub marked : slice_get old.store.marks (floor - 1) ≡ Some start
  pub current : MeantAlternative
  pub choices : List MeantChoice
  pub many : length old.choices ≡ floor + length choices
  pub goes_on : let under = bound_under (bound_at start) choices in MeansAlternative c.items under.bound under.next (length old.choices) c.current current
  pub now : (v : ℕ) → v < start.next → value_of current.bound v ≡ value_of old.store.now.bound v
  pub entry : (named : List NamedTerm) → Each (IsNamedBelow start.next) named
      → position_entry named old p ≡ PlainEntry (meant_continuation (heights_of named old) named current)
  pub captured : CaptureChoices c.items (bound_at start) floor c.choices.items choices
  pub entries : (named : List NamedTerm) → Each (IsNamedBelow start.next) named
      → entries_of named old ≡ meant_entries (heights_of named old) named choices ++ entries_of named new
  pub heights : (named : List NamedTerm) → AreHeightsOf (heights_of named old) named floor (length (entries_of named new)) choices
  pub marks : MarkGuards floor choices current
  pub choice_marks : Each (λ m. Each (MarkGuards floor choices) m.alternatives) choices
  pub below : (named : List NamedTerm) (n : ℕ) → n ≤ floor → height_of_cut (heights_of named new) n ≡ height_of_cut (heights_of named old) n
  pub left : new.choices ≡ take floor old.choices
  pub left_marks : new.store.marks ≡ take floor old.store.marks
  pub text : new.text ≡ old.text
