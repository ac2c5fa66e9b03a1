-- The bindings that what is left can reach, as they are found.
use Rattle.std.specs.Prelude.{◌≡◌, ◌⊎◌, ℕ, ◌+◌, ◌<◌, ◌≤◌, Bool, cond, List, [], ◌∷◌, ◌++◌, length}
use Rattle.std.specs.List.{Contains}
use Rattle.au_term.specs.Term.{VarTerm, var_bound}
use Rattle.au_term.specs.declared.segment.Binding.{Binding}
use Rattle.au_model.specs.Terms.Each.{Each}
use Rattle.au_model.specs.Terms.Substitutions.{value_of, resolve}
use Rattle.cell_store.specs.StoreView.{Moment, StoreView}
use Rattle.branch_bindings.specs.Extensions.{IsBoundAmong, BindOnce}
use Rattle.region_split.specs.Regions.{RegionView, items_here}
use Rattle.region_split.specs.declared.frame.Position.{Position}
use Rattle.region_capture.specs.CapturedItems.{ItemLists, HasItems, AddsItems}
use Rattle.region_capture.specs.CapturedMeanings.{captured_bindings}
use Rattle.region_capture.specs.CapturedChoices.{BoundThen}
use Rattle.region_capture.specs.CapturedRegions.{bound_at}
use Rattle.region_capture.specs.KeptLevels.{IsSeen, SeesBelow, IsItemReached, KeepsSeen, KeepsLevel}
use Rattle.region_capture.specs.CaptureSteps.{IsMarkedOver}
use Rattle.region_capture.specs.declared.captured.CapturedAlternative.{CapturedAlternative}
use Rattle.region_capture.specs.declared.needed.Needed.{Needed}

-- a variable with its value as it is written
pub record IsWrittenFor (st : StoreView) (v : ℕ) (b : Binding) : Type 0 where
  pub is : b.var ≡ v
  pub stands : value_of st.now.bound v ≡ resolve st.now.bound b.value
  pub older : (w : ℕ) → b.value ≡ VarTerm w → w < v
  pub below : var_bound b.value ≤ st.now.next

pub record AddsBound (st : StoreView) (v : ℕ) (old new : List Binding) : Type 0 where
  pub binding : Binding
  pub added : new ≡ old ++ binding ∷ []
  pub written : IsWrittenFor st v binding

-- the binding of a variable was put to others, if it is bound
abbrev pub AddsBinding : StoreView → ℕ → List Binding → List Binding → Type 0
AddsBinding st v old new = ((value_of st.now.bound v ≡ VarTerm v) × (new ≡ old)) ⊎ AddsBound st v old new

-- how many variables were not seen
abbrev pub unseen : List Bool → ℕ
unseen [] = 0
unseen (b ∷ seen) = cond b 0 1 + unseen seen

-- how many are left to be seen, or were found bound
abbrev pub reach_left : Needed → ℕ
reach_left n = unseen n.seen + length n.bindings

-- further variables were seen, with the bindings of those that came at a number or later: where older ones that were bound since then
-- had been seen, these are the bindings of all that were seen
pub record SeesMore (st : StoreView) (first : ℕ) (old new : Needed) : Type 0 where
  pub below : SeesBelow st.now.next old.seen new.seen
  pub long : length new.seen ≡ length old.seen
  pub keeps : (under : BoundThen) → first ≡ under.next → KeepsSeen under (bound_at st.now) old.seen old.bindings
      → KeepsSeen under (bound_at st.now) new.seen new.bindings
  pub more : List Binding
  pub added : new.bindings ≡ old.bindings ++ more
  pub fewer : reach_left new ≤ reach_left old

-- none of some variables is seen
pub record Forgets (variables : List ℕ) (old new : List Bool) : Type 0 where
  pub none : (v : ℕ) → Contains variables v → IsSeen new v → ⊥
  pub others : (v : ℕ) → IsSeen old v → IsSeen new v ⊎ Contains variables v
  pub only : (v : ℕ) → IsSeen new v → IsSeen old v
  pub long : length new ≡ length old

-- the binding of one of some variables that was seen
pub record IsAmong (among : ℕ → Type 0) (st : StoreView) (n : Needed) (b : Binding) : Type 0 where
  pub own : among b.var
  pub is_seen : IsSeen n.seen b.var
  pub written : IsWrittenFor st b.var b

-- those of all that were seen, each once
pub record KeepsAmong (among : ℕ → Type 0) (st : StoreView) (n : Needed) : Type 0 where
  pub each : Each (IsAmong among st n) n.bindings
  pub once : BindOnce (captured_bindings n.bindings)
  pub all : (v : ℕ) → among v → IsSeen n.seen v → (value_of st.now.bound v ≡ VarTerm v) ⊎ IsBoundAmong (captured_bindings n.bindings) v

-- some variables were seen, and no others than before
pub record SeesThese (st : StoreView) (variables : List ℕ) (old : List Bool) (new : Needed) : Type 0 where
  pub kept : (v : ℕ) → IsSeen old v → IsSeen new.seen v
  pub only : (v : ℕ) → IsSeen new.seen v → IsSeen old v ⊎ Contains variables v
  pub all : (v : ℕ) → Contains variables v → IsSeen new.seen v
  pub long : length new.seen ≡ length old
  pub keeps : KeepsAmong (Contains variables) st new

-- some variables, and those from a number on up to another
abbrev pub IsOfThese : List ℕ → ℕ → ℕ → ℕ → Type 0
IsOfThese variables first to v = Contains variables v ⊎ ((first ≤ v) × (v < to))

-- the bindings of those that had been seen were put to others
pub record WritesSeen (st : StoreView) (first to : ℕ) (old new : Needed) : Type 0 where
  pub same : new.seen ≡ old.seen
  pub keeps : (variables : List ℕ) → Each (λ v. v < first) variables → KeepsAmong (Contains variables) st old → KeepsAmong (IsOfThese variables first to) st new

-- at the mark over so many others the bindings since then were found of what had been seen
pub record OpensLevel (st : StoreView) (mark : ℕ) (old : List Bool) (new : Needed) : Type 0 where
  pub below : SeesBelow st.now.next old new.seen
  pub long : length new.seen ≡ length old
  pub keeps : (m : Moment) → IsMarkedOver st mark m → KeepsSeen (bound_at m) (bound_at st.now) new.seen new.bindings

-- and of what it can reach
pub record KeepsSince (st : StoreView) (mark : ℕ) (old new : List Bool) (bs : List Binding) : Type 0 where
  pub below : SeesBelow st.now.next old new
  pub long : length new ≡ length old
  pub level : (m : Moment) → IsMarkedOver st mark m → KeepsLevel (bound_at m) (bound_at st.now) new bs

-- what is left at a position was written down, with the bindings since a mark that it can reach
pub record CapturesCurrent (r : RegionView) (mark : ℕ) (p : Position) (old new : ItemLists) (a : CapturedAlternative) (seen : List Bool) : Type 0 where
  pub items : HasItems new a.first (items_here r p)
  pub next : a.next ≡ r.store.now.next
  pub long : length seen ≡ r.store.now.next
  pub level : (m : Moment) → IsMarkedOver r.store mark m → KeepsLevel (bound_at m) (bound_at r.store.now) seen a.bindings
  pub reached : Each (IsItemReached r.store.now.next seen) (items_here r p)
  pub adds : AddsItems old new
