-- What is deferred and comes next.
use Rattle.std.specs.Prelude.{◌≡◌, ℕ, List, [], ◌∷◌, ◌++◌, length, Some, None, slice_get}
use Rattle.au_term.specs.Term.{Term}
use Rattle.au_model.specs.Terms.Each.{Each}
use Rattle.au_model.specs.Terms.Named.{NamedTerm}
use Rattle.run_model.specs.Machine.Items.{Item, CollectMark, RemovalItem, Continuation, before, resolve_continuation}
use Rattle.run_model.specs.Machine.Entries.{PlainEntry}
use Rattle.tree_model.specs.Nodes.{WorldGate}
use Rattle.region_split.specs.Regions.{RegionView, standing, entries_of, heights_of, position_entry, IsPositionIn}
use Rattle.region_split.specs.StackOperations.{goals_here}
use Rattle.region_split.specs.declared.frame.FrameItem.{FrameItem}
use Rattle.region_split.specs.declared.frame.Position.{Position}
use Rattle.region_control.specs.Ahead.{IsGoalThere, goal_entry}
use Rattle.region_control.specs.declared.control.GoalPlace.{GoalPlace}
use Rattle.region_floor.specs.RegionRuns.{RegionRun, StandsAfter, StandsAtGate, ComesToResult}
use Rattle.task_region.specs.DeferredItems.{IsDeferredOver}
use Rattle.task_region.specs.BareRegions.{IsOverFloor}
use Rattle.task_region.specs.TaskViews.{carried, deferred_stack, goal_stack}
use Rattle.task_region.specs.declared.loading.AfterDeferred.{AfterDeferred}
use Rattle.task_region.specs.declared.loading.AfterDeferred.TheVariants.{Goal, Answer, Result, Removal}

-- nothing left to do now, but with these named terms
abbrev pub nothing_here : List NamedTerm → RegionView → Continuation ℕ
nothing_here named r = resolve_continuation r.store.now.bound (record { items = []; named = named; next = r.store.now.next })

-- these items are left at a position, and the choice points stand for what they stood for
pub record LeavesItems (old new : RegionView) (items : List ℕ → List (Item ℕ)) (p : Position) : Type 0 where
  pub position : IsPositionIn new p
  pub entry : (named : List NamedTerm) → position_entry named new p ≡ PlainEntry (before (items (heights_of named old)) (nothing_here named old))
  pub stands : (named : List NamedTerm) → standing named new ≡ standing named old
  pub choices : new.choices ≡ old.choices
  pub text : new.text ≡ old.text
  pub floor : new.store.floor ≡ old.store.floor
  pub store : new.store ≡ old.store
  pub next : new.store.now.next ≡ old.store.now.next

-- what is deferred from a number on, and before that goals as they are now
abbrev pub rest_items : ℕ → List ℕ → List (Item ℕ)
rest_items number heights = RemovalItem number ∷ []

abbrev pub loaded_items : RegionView → List Term → ℕ → ℕ → List ℕ → List (Item ℕ)
loaded_items r goals cut number heights = goals_here r goals cut heights ++ RemovalItem number ∷ []

-- goals of one scope were copied in, the first of them to be taken, and stand before what is deferred from a number on
pub record LoadsGoals (old new : RegionView) (goals : List Term) (cut number : ℕ) (item : FrameItem) (g : GoalPlace) : Type 0 where
  pub there : IsGoalThere new item g
  pub entry : (named : List NamedTerm) → goal_entry named new item g ≡ PlainEntry (before (loaded_items old goals cut number (heights_of named old)) (nothing_here named old))
  pub stands : (named : List NamedTerm) → standing named new ≡ standing named old
  pub choices : new.choices ≡ old.choices
  pub text : new.text ≡ old.text
  pub floor : new.store.floor ≡ old.store.floor
  pub next : new.store.now.next ≡ old.store.now.next

-- a goal is left where it stood
pub record LeavesGoal (old new : RegionView) (item : FrameItem) (g : GoalPlace) (p : Position) : Type 0 where
  pub position : IsPositionIn new p
  pub entry : (named : List NamedTerm) → position_entry named new p ≡ goal_entry named old item g
  pub entries : (named : List NamedTerm) → entries_of named new ≡ entries_of named old
  pub there : IsGoalThere new item g
  pub same : (named : List NamedTerm) → goal_entry named new item g ≡ goal_entry named old item g
  pub text : new.text ≡ old.text
  pub floor : new.store.floor ≡ old.store.floor
  pub store : new.store ≡ old.store

-- a run has come to what it defers from a number on
pub record ComesToDeferred (r : RegionRun) (k : ℕ) (named : List NamedTerm) (here : RegionView) (number : ℕ) (after : Position) : Type 0 where
  pub named_are : r.deferred.named ≡ length named
  pub over : IsOverFloor (length r.levels) (carried named r.deferred.items) here
  pub scoped : Each (IsDeferredOver here.store.now.next (length r.levels)) r.deferred.items
  pub stands : StandsAfter r k (deferred_stack named r.deferred.items here number after)

-- goals were loaded; or the run has come to a number from which on nothing is deferred, or to a result for a findall of the branch, or
-- to a removal
abbrev pub DeferredTaken : RegionRun → ℕ → List NamedTerm → RegionView → RegionView → Position → AfterDeferred → Type 0
DeferredTaken r k named old new after (Goal item g) = StandsAfter r k (goal_stack named r.deferred.items new item g)
DeferredTaken r k named old new after (Answer number) = ComesToDeferred r k named old number after × StandsAtGate r k (deferred_stack named r.deferred.items old number after) WorldGate
DeferredTaken r k named old new after (Result number) = ComesToDeferred r k named old number after × ComesToResult r k (deferred_stack named r.deferred.items old number after)
DeferredTaken r k named old new after (Removal number clause) = ComesToDeferred r k named old number after × StandsAtGate r k (deferred_stack named r.deferred.items old number after) WorldGate

-- where the run stops, this is the number's item, and nothing has changed
abbrev pub IsDeferredThere : RegionView → RegionView → List (Item ℕ) → AfterDeferred → Type 0
IsDeferredThere old new items (Goal item g) = IsGoalThere new item g
IsDeferredThere old new items (Answer number) = (slice_get items number ≡ None) × (new ≡ old)
IsDeferredThere old new items (Result number) = ((result : Term) × (h : ℕ) × (slice_get items number ≡ Some (CollectMark result h))) × (new ≡ old)
IsDeferredThere old new items (Removal number clause) = (slice_get items number ≡ Some (RemovalItem clause)) × (new ≡ old)

-- what is deferred from a number on was taken up
pub record TakesUpDeferred (old new : RegionView) (items : List (Item ℕ)) (number : ℕ) (reached : AfterDeferred) : Type 0 where
  pub taken : (r : RegionRun) (k : ℕ) (named : List NamedTerm) (after : Position) → r.deferred.items ≡ items → ComesToDeferred r k named old number after
      → DeferredTaken r k named old new after reached
  pub there : IsDeferredThere old new items reached
  pub stands : (named : List NamedTerm) → standing named new ≡ standing named old
  pub choices : new.choices ≡ old.choices
  pub text : new.text ≡ old.text
  pub floor : new.store.floor ≡ old.store.floor
  pub next : new.store.now.next ≡ old.store.now.next
