-- Balls in a region (ISO/IEC 13211-1, 7.8.9 and 7.8.10).
use Rattle.std.specs.Prelude.{◌≡◌, ℕ, Bool, true, false, List, [], ◌∷◌, ◌++◌, length, Option, Some, None}
use Rattle.au_term.specs.Term.{Term}
use Rattle.au_model.specs.Terms.Copies.{copied}
use Rattle.au_model.specs.Terms.Named.{NamedTerm}
use Rattle.au_model.specs.Terms.Unifier.{unifier}
use Rattle.run_model.specs.Machine.Balls.{recovered, unwound}
use Rattle.run_model.specs.Machine.Entries.{Entry, CatchEntry, EndEntry}
use Rattle.run_model.specs.Machine.Items.{first_mark}
use Rattle.cell_store.specs.StoreView.{IsValueIn, meaning}
use Rattle.region_split.specs.ChoicePoints.{height_of_cut, IsCatchAt}
use Rattle.region_split.specs.Regions.{RegionView, entries_of, heights_of, continuation_here, position_entry, IsPositionIn}
use Rattle.region_split.specs.StackOperations.{StaysStanding}
use Rattle.region_split.specs.declared.choice.ChoicePoint.{ChoicePoint}
use Rattle.region_split.specs.declared.frame.FrameItem.{FrameItem}
use Rattle.region_split.specs.declared.frame.FrameItem.TheVariants.{Goal, Call, Cut, True, Fail, CatchEnd, Collect, Removal}
use Rattle.region_split.specs.declared.frame.Position.{Position}
use Rattle.region_control.specs.declared.balls.Catch.{Catch}

-- the end of what a catch guards
abbrev pub is_catch_end : FrameItem → Bool
is_catch_end (Goal value) = false
is_catch_end (Call value) = false
is_catch_end Cut = false
is_catch_end True = false
is_catch_end Fail = false
is_catch_end CatchEnd = true
is_catch_end (Collect value) = false
is_catch_end (Removal number) = false

-- the height of a catch that is over so many choice points
abbrev pub mark_height : List ℕ → Option ℕ → Option ℕ
mark_height heights None = None
mark_height heights (Some over) = Some (height_of_cut heights over)

abbrev pub IsCatchOver : List ChoicePoint → Option ℕ → Type 0
IsCatchOver choices None = Unit {0}
IsCatchOver choices (Some over) = IsCatchAt choices over

-- the catch whose mark comes first at a position
pub record HasFirstCatch (r : RegionView) (p : Position) (mark : Option ℕ) : Type 0 where
  pub is : (named : List NamedTerm) → first_mark (continuation_here named r p).items ≡ mark_height (heights_of named r) mark
  pub there : IsCatchOver r.choices mark

-- the catch over so many choice points was taken off, with all above it, at the store of the time when it came
pub record TakesCatch (old new : RegionView) (over : ℕ) (c : Catch) : Type 0 where
  pub above : List NamedTerm → List Entry
  pub entries : (named : List NamedTerm) → entries_of named old ≡ above named ++ CatchEntry (meaning new.store c.catcher) (meaning new.store c.recovery) (continuation_here named new c.after) ∷ entries_of named new
  pub height : (named : List NamedTerm) → height_of_cut (heights_of named old) over ≡ length (entries_of named new)
  pub position : IsPositionIn new c.after
  pub catcher : IsValueIn new.store c.catcher
  pub recovery : IsValueIn new.store c.recovery
  pub many : length new.choices ≡ over

-- a catch took a copy of the ball, and its recovery goes on; or it doesn't take it
pub record Recovers (old new : RegionView) (ball : Term) (c : Catch) (p : Position) : Type 0 where
  pub entries : (named : List NamedTerm) (further : List Entry)
      → recovered (unifier ((meaning old.store c.catcher, copied ball old.store.now.next) ∷ [])) ball (meaning old.store c.recovery) (continuation_here named old c.after) (entries_of named old) further ≡ position_entry named new p ∷ entries_of named new
  pub position : IsPositionIn new p

abbrev pub RecoversOr : RegionView → RegionView → Term → Catch → Option Position → Type 0
RecoversOr old new ball c None = (unifier ((meaning old.store c.catcher, copied ball old.store.now.next) ∷ []) ≡ None) × StaysStanding old new
RecoversOr old new ball c (Some p) = Recovers old new ball c p

-- a ball was thrown at a position: the recovery of the catch that took it goes on, or none took it and no choice point is left
pub record LandsAt (old new : RegionView) (ball : Term) (thrown p : Position) : Type 0 where
  pub entries : (named : List NamedTerm) → unwound ball (first_mark (continuation_here named old thrown).items) (entries_of named old) ≡ position_entry named new p ∷ entries_of named new
  pub position : IsPositionIn new p

pub record IsUncaught (old new : RegionView) (ball : Term) (thrown : Position) : Type 0 where
  pub entries : (named : List NamedTerm) → unwound ball (first_mark (continuation_here named old thrown).items) (entries_of named old) ≡ EndEntry (Some (copied ball 0)) ∷ []
  pub none : length new.choices ≡ 0

abbrev pub Lands : RegionView → RegionView → Term → Position → Option Position → Type 0
Lands old new ball thrown None = IsUncaught old new ball thrown
Lands old new ball thrown (Some p) = LandsAt old new ball thrown p
