-- Runs of a region in the states of the sequential machine.
use Rattle.std.specs.Prelude.{◌≡◌, ◌≤◌, ◌+◌, ℕ, zero, suc, List, [], ◌∷◌, ◌++◌, length, Option, Some, None}
use Rattle.au_term.specs.Term.{Term}
use Rattle.au_model.specs.Terms.Named.{NamedTerm}
use Rattle.run_model.specs.Goals.GoalOutcomes.{outcome_of}
use Rattle.run_model.specs.Goals.Outcomes.{AskWorld}
use Rattle.run_model.specs.Machine.Entries.{Entry, EndEntry}
use Rattle.run_model.specs.Machine.States.{State, step, with_free_steps}
use Rattle.run_model.specs.Programs.Clauses.{Clause}
use Rattle.region_split.specs.Regions.{RegionView, entries_of, position_entry, IsPositionIn}
use Rattle.region_split.specs.ClauseTrials.{IsOptionalPosition, entries_at}
use Rattle.region_split.specs.declared.frame.FrameItem.{FrameItem}
use Rattle.region_split.specs.declared.frame.Position.{Position}
use Rattle.region_split.specs.QueryEnds.{AreEndsOldest}
use Rattle.region_control.specs.Ahead.{IsGoalThere, IsNothingLeft, LiesAhead, goal_entry, removal_entry}
use Rattle.region_control.specs.declared.ahead.Ahead.{Ahead}
use Rattle.region_control.specs.declared.ahead.Ahead.TheVariants as ahead
use Rattle.region_control.specs.declared.control.GoalPlace.{GoalPlace}
use Rattle.region_control.specs.declared.replies.AfterGoal.{AfterGoal}
use Rattle.region_control.specs.declared.replies.AfterGoal.TheVariants.{At, Failed}
use Rattle.region_run.specs.Inferences.{item_goal, HasArguments, InfersItem, IsCompoundItem}
use Rattle.region_run.specs.declared.compounds.Taken.{Taken}
use Rattle.region_run.specs.declared.compounds.Taken.TheVariants as taken
use Rattle.region_run.specs.declared.running.Ran.{Ran}
use Rattle.region_run.specs.declared.running.Stop.{Stop}
use Rattle.region_run.specs.declared.running.Stop.TheVariants.{Limit, World, Removal, Answer, QueryDone, AllDone}

-- the state after so many inferences, and all free steps after each
abbrev pub run_on : List Clause → ℕ → State → State
run_on clauses zero st = st
run_on clauses (suc n) st = with_free_steps (step clauses (run_on clauses n st))

-- the entries where a region stopped
abbrev pub stop_entries : List NamedTerm → RegionView → Stop → List Entry
stop_entries named r (Limit item g) = goal_entry named r item g ∷ entries_of named r
stop_entries named r (World item g) = goal_entry named r item g ∷ entries_of named r
stop_entries named r (Removal number after) = removal_entry named r number after ∷ entries_of named r
stop_entries named r (Answer p) = position_entry named r p ∷ entries_of named r
stop_entries named r (QueryDone None) = EndEntry None ∷ entries_of named r
stop_entries named r (QueryDone (Some ball)) = EndEntry (Some ball) ∷ []
stop_entries named r AllDone = []

-- a goal that the world is asked for
pub record AsksWorldNext (r : RegionView) (item : FrameItem) (g : GoalPlace) : Type 0 where
  pub there : IsGoalThere r item g
  pub goal : Term
  pub is : item_goal r.store item ≡ Some goal
  pub asked : Term
  pub asks : outcome_of r.text.clauses goal r.store.now.next ≡ AskWorld asked

-- a region stops exactly where it says
abbrev pub IsStop : RegionView → ℕ → Ran → Stop → Type 0
IsStop r limit ran (Limit item g) = IsGoalThere r item g × (ran.taken ≡ limit)
IsStop r limit ran (World item g) = AsksWorldNext r item g
IsStop r limit ran (Removal number after) = IsPositionIn r after
IsStop r limit ran (Answer p) = IsNothingLeft r p
IsStop r limit ran (QueryDone ball) = Unit {0}
IsStop r limit ran AllDone = length r.choices ≡ 0

-- what goes on at a start and what the choice points stand for is what goes on there next, over what they stand for then
pub record GoesOnFrom (old new : RegionView) (start next : Option Position) : Type 0 where
  pub entries : (named : List NamedTerm) → entries_at named old start ++ entries_of named old ≡ entries_at named new next ++ entries_of named new
  pub there : IsOptionalPosition new (length new.choices) next

-- the sequential machine's inferences from a start, where nothing has halted it: they change its entries alone, and count
pub record Runs (old new : RegionView) (start : Option Position) (limit : ℕ) (ran : Ran) : Type 0 where
  pub run : (named : List NamedTerm) (st : State) → st.entries ≡ entries_at named old start ++ entries_of named old → st.halted ≡ None
      → run_on old.text.clauses ran.taken (with_free_steps st) ≡ record st { entries = stop_entries named new ran.stop; inferences = st.inferences + ran.taken }
  pub within : ran.taken ≤ limit
  pub stops : IsStop new limit ran ran.stop

-- the goal that stood first was taken, after all free steps
pub record TakesFirst (old new : RegionView) (start : Option Position) (item : FrameItem) (g : GoalPlace) (after : AfterGoal) : Type 0 where
  pub between : RegionView
  pub ahead : LiesAhead old between start (ahead.Goal item g)
  pub kept : between.text ≡ old.text
  pub stayed : between.store.floor ≡ old.store.floor
  pub infers : InfersItem between new item g after
  pub text : new.text ≡ between.text
  pub floor : new.store.floor ≡ between.store.floor

-- and it is a compound; the ends of queries were the oldest choice points then, each of which had its mark
pub record TakesCompoundFirst (old new : RegionView) (start : Option Position) (item : FrameItem) (g : GoalPlace) (after : AfterGoal) : Type 0 where
  pub first : TakesFirst old new start item g after
  pub compound : IsCompoundItem item
  pub arguments : HasArguments first.between.store item
  pub ends : AreEndsOldest first.between.choices
  pub marks : length first.between.store.marks ≡ length first.between.choices

-- a call has come to a clause, or to none
abbrev pub after_call : Option Position → AfterGoal
after_call (Some p) = At p
after_call None = Failed

pub record TakesCall (old new : RegionView) (start next : Option Position) : Type 0 where
  pub item : FrameItem
  pub place : GoalPlace
  pub call : TakesCompoundFirst old new start item place (after_call next)

-- nothing but a free step was taken
pub record TakesNothing (old new : RegionView) (start next : Option Position) : Type 0 where
  pub goes : GoesOnFrom old new start next
  pub text : new.text ≡ old.text
  pub floor : new.store.floor ≡ old.store.floor

-- a compound that stands first is taken
abbrev pub TakesCompound : RegionView → RegionView → Option Position → Taken → Type 0
TakesCompound old new start (taken.Called next) = TakesCall old new start next
TakesCompound old new start (taken.Goal item g after) = TakesCompoundFirst old new start item g after
TakesCompound old new start (taken.Nothing next) = TakesNothing old new start next

-- where a run stops that takes no more goal
abbrev pub stop_of : Ahead → Stop
stop_of (ahead.Goal item g) = Limit item g
stop_of (ahead.Removal number after) = Removal number after
stop_of (ahead.Answer p) = Answer p
stop_of ahead.QueryDone = QueryDone None
stop_of ahead.AllDone = AllDone
