-- What lies ahead of a region where no free step is left.
use Rattle.std.specs.Prelude.{◌≡◌, ℕ, Bool, true, false, List, [], ◌∷◌, ◌++◌, length, Option, None}
use Rattle.au_model.specs.Terms.Named.{NamedTerm}
use Rattle.run_model.specs.Machine.Items.{Item, CollectMark, RemovalItem, before, with_next, without_marks}
use Rattle.run_model.specs.Machine.Entries.{Entry, PlainEntry, EndEntry, collected}
use Rattle.run_model.specs.Machine.FreeSteps.{take_free_steps, findall_ends}
use Rattle.binding_array.specs.declared.cell.BindingCell.{BindingCell}
use Rattle.binding_array.specs.declared.cell.BindingCell.TheVariants.{Compound}
use Rattle.cell_store.specs.StoreView.{IsValueIn, meaning}
use Rattle.region_split.specs.ChoicePoints.{height_of_cut, IsFindallAt}
use Rattle.region_split.specs.Regions.{RegionView, entries_of, heights_of, items_here, continuation_here, position_entry, IsPositionIn, IsItemHere}
use Rattle.region_split.specs.StackOperations.{item_here}
use Rattle.region_split.specs.ClauseTrials.{entries_at}
use Rattle.region_split.specs.ResultLists.{ResultsView}
use Rattle.region_split.specs.declared.frame.FrameItem.{FrameItem}
use Rattle.region_split.specs.declared.frame.FrameItem.TheVariants.{Goal as ValueGoal, Call, Cut, True, Fail, CatchEnd, Collect, Removal as RemovedClause}
use Rattle.region_split.specs.declared.frame.Position.{Position}
use Rattle.region_control.specs.Controls.{IsGoalPlace}
use Rattle.region_control.specs.declared.control.GoalPlace.{GoalPlace}
use Rattle.region_control.specs.declared.ahead.Ahead.{Ahead}
use Rattle.region_control.specs.declared.ahead.Ahead.TheVariants.{Goal, Removal, Answer, QueryDone, AllDone}
use Rattle.region_control.specs.declared.ahead.CompoundAhead.{CompoundAhead}
use Rattle.region_control.specs.declared.ahead.FirstItem.{FirstItem}
use Rattle.region_control.specs.declared.ahead.FirstItem.TheVariants as first

-- an item that is a goal
abbrev pub is_goal_item : FrameItem → Bool
is_goal_item (ValueGoal value) = true
is_goal_item (Call value) = true
is_goal_item Cut = true
is_goal_item True = true
is_goal_item Fail = true
is_goal_item CatchEnd = false
is_goal_item (Collect value) = false
is_goal_item (RemovedClause number) = false

-- a goal that stands in a region
pub record IsGoalThere (r : RegionView) (item : FrameItem) (g : GoalPlace) : Type 0 where
  pub goal : is_goal_item item ≡ true
  pub there : IsItemHere r item
  pub place : IsGoalPlace r g

-- a goal before what follows it
abbrev pub items_with_goal : List NamedTerm → RegionView → FrameItem → GoalPlace → List (Item ℕ)
items_with_goal named r item g = item_here r item g.cut (heights_of named r) ++ (continuation_here named r g.after).items

abbrev pub goal_entry : List NamedTerm → RegionView → FrameItem → GoalPlace → Entry
goal_entry named r item g = PlainEntry (before (item_here r item g.cut (heights_of named r)) (continuation_here named r g.after))

-- a compound that stands first as a goal
abbrev pub compound_goal : CompoundAhead → Ahead
compound_goal g = Goal (ValueGoal (Compound g.at g.base)) g.place

-- what comes first at a position after the ends of catches
pub record HasGoalFirst (r : RegionView) (p : Position) (item : FrameItem) (g : GoalPlace) : Type 0 where
  pub items : (named : List NamedTerm) → without_marks (continuation_here named r p).items ≡ items_with_goal named r item g
  pub there : IsGoalThere r item g

pub record HasResultFirst (r : RegionView) (p : Position) (value : BindingCell) (over : ℕ) : Type 0 where
  pub after : List NamedTerm → List (Item ℕ)
  pub items : (named : List NamedTerm) → without_marks (continuation_here named r p).items ≡ CollectMark (meaning r.store value) (height_of_cut (heights_of named r) over) ∷ after named
  pub there : IsValueIn r.store value
  pub findall : IsFindallAt r.choices over

pub record HasRemovalFirst (r : RegionView) (p : Position) (number : ℕ) (after : Position) : Type 0 where
  pub items : (named : List NamedTerm) → without_marks (continuation_here named r p).items ≡ RemovalItem number ∷ (continuation_here named r after).items
  pub there : IsPositionIn r after

-- nothing is left at a position
pub record IsNothingLeft (r : RegionView) (p : Position) : Type 0 where
  pub items : items_here r p ≡ []
  pub position : IsPositionIn r p

pub record HasNothingFirst (r : RegionView) (p last : Position) : Type 0 where
  pub items : (named : List NamedTerm) → without_marks (continuation_here named r p).items ≡ []
  pub left : IsNothingLeft r last

abbrev pub HasFirst : RegionView → Position → FirstItem → Type 0
HasFirst r p (first.Goal item g) = HasGoalFirst r p item g
HasFirst r p (first.Result value over) = HasResultFirst r p value over
HasFirst r p (first.Removal number after) = HasRemovalFirst r p number after
HasFirst r p (first.Nothing last) = HasNothingFirst r p last

-- the removal of a clause before what follows it
abbrev pub removal_entry : List NamedTerm → RegionView → ℕ → Position → Entry
removal_entry named r number after = PlainEntry (before (RemovalItem number ∷ []) (continuation_here named r after))

-- the entries where no free step is left
abbrev pub ahead_entries : List NamedTerm → RegionView → Ahead → List Entry
ahead_entries named r (Goal item g) = goal_entry named r item g ∷ entries_of named r
ahead_entries named r (Removal number after) = removal_entry named r number after ∷ entries_of named r
ahead_entries named r (Answer p) = position_entry named r p ∷ entries_of named r
ahead_entries named r QueryDone = EndEntry None ∷ entries_of named r
ahead_entries named r AllDone = []

abbrev pub IsThereAhead : RegionView → Ahead → Type 0
IsThereAhead r (Goal item g) = IsGoalThere r item g
IsThereAhead r (Removal number after) = IsPositionIn r after
IsThereAhead r (Answer p) = IsNothingLeft r p
IsThereAhead r QueryDone = Unit {0}
IsThereAhead r AllDone = length r.choices ≡ 0

-- all free steps were taken from a position, or from what the choice points had left
pub record LiesAhead (old new : RegionView) (start : Option Position) (a : Ahead) : Type 0 where
  pub entries : (named : List NamedTerm) → take_free_steps (entries_at named old start ++ entries_of named old) ≡ ahead_entries named new a
  pub there : IsThereAhead new a

-- a result was added to the findall over so many choice points
pub record CollectsResult (old new : RegionView) (value : BindingCell) (over : ℕ) : Type 0 where
  pub entries : (named : List NamedTerm) → entries_of named new ≡ collected (height_of_cut (heights_of named old) over) (meaning old.store value) (entries_of named old)
  pub text : new.text ≡ old.text
  pub floor : new.store.floor ≡ old.store.floor

-- the list of a findall is unified with its results next
abbrev pub findall_end_entries : List NamedTerm → RegionView → BindingCell → ResultsView → Position → List Entry
findall_end_entries named r list results after = findall_ends results.terms (meaning r.store list) (with_next results.next (continuation_here named r after)) (entries_of named r) ∷ entries_of named r

pub record EndsFindall (old new : RegionView) (list : BindingCell) (results : ResultsView) (after : Position) (a : Ahead) : Type 0 where
  pub entries : (named : List NamedTerm) → findall_end_entries named old list results after ≡ ahead_entries named new a
  pub there : IsThereAhead new a
