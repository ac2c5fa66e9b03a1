-- What a task's own run tells of its region.
use Rattle.std.proofs.Common.{◌≡◌, ℕ, ◌≤◌, List, ◌∷◌, length, sym, ap, ◌∙◌, subst, arith}
use Rattle.au_model.specs.Terms.Each.{Each}
use Rattle.au_model.specs.Terms.Named.{NamedTerm}
use Rattle.au_model.proofs.EachLemmas.{each-more}
use Rattle.run_model.specs.Machine.Items.{Item, GoalItem, CatchMark, CollectMark, RemovalItem, Continuation}
use Rattle.run_model.specs.Machine.Entries.{PlainEntry}
use Rattle.region_split.specs.QueryEnds.{AreEndsOldest}
use Rattle.region_split.specs.Regions.{RegionView, entries_of}
use Rattle.region_split.specs.Texts.{TextView}
use Rattle.region_floor.specs.BareFloors.{AreOwn, IsOuterMark}
use Rattle.region_floor.specs.NextNumbers.{NumbersFrom}
use Rattle.region_floor.specs.RegionRuns.{RegionRun, StandsAfter, AreOuter}
use Rattle.region_floor.proofs.RunLemmas.{tops_are_own}
use Rattle.task_region.specs.BareRegions.{IsOverFloor}
use Rattle.task_region.specs.DeferredItems.{IsDeferredOver}
use Rattle.task_region.specs.TaskViews.{TaskView}
use Rattle.task_region.specs.TaskStandings.{IsOwnRun}
use Rattle.task_region.specs.TaskStops.{SameTask}
use Rattle.task_region.proofs.EndLemmas.{ends_are_floor}

outer_item : (variables floor : ℕ) (i : Item ℕ) → IsDeferredOver variables floor i → IsOuterMark floor i
outer_item variables floor (GoalItem t h) d = tt
outer_item variables floor (CatchMark h) d = d
outer_item variables floor (CollectMark t h) d = d.1
outer_item variables floor (RemovalItem number) d = tt

over_more : (variables floor next many : ℕ) (i : Item ℕ) → variables ≤ next → floor ≤ many → IsDeferredOver variables floor i → IsDeferredOver next many i
over_more variables floor next many (GoalItem t h) a b d = let v = d.0 in let c = d.1 in (omega (arith, a, v), omega (arith, b, c))
over_more variables floor next many (CatchMark h) a b d = omega (arith, b, d)
over_more variables floor next many (CollectMark t h) a b d = let v = d.0 in let c = d.1 in (omega (arith, a, v), omega (arith, b, c))
over_more variables floor next many (RemovalItem number) a b d = tt

pub deferred_further : (variables floor next many : ℕ) (items : List (Item ℕ)) → variables ≤ next → floor ≤ many → Each (IsDeferredOver variables floor) items → Each (IsDeferredOver next many) items
deferred_further variables floor next many items a b d =
    each-more (IsDeferredOver variables floor) (IsDeferredOver next many) (λ i. over_more variables floor next many i a b) items d

pub outer_marks : (r : RegionRun) (named : List NamedTerm) (t : TaskView) → IsOwnRun r named t → Each (IsDeferredOver t.variables t.floor) t.deferred → AreOuter r
outer_marks r named t own d =
    subst (Each (IsOuterMark (length r.levels))) (sym own.items)
    (subst (λ n. Each (IsOuterMark n) t.deferred) (sym own.levels) (each-more (IsDeferredOver t.variables t.floor) (IsOuterMark t.floor) (outer_item t.variables t.floor) t.deferred d))

pub own_run_of : (r : RegionRun) (named : List NamedTerm) (old new : TaskView) → SameTask old new → IsOwnRun r named old → IsOwnRun r named new
own_run_of r named old new same own = record {
  clauses = own.clauses ∙ ap (λ (x : TextView). x.clauses) (sym same.text);
  levels = own.levels ∙ sym same.floor;
  named_are = own.named_are;
  items = own.items ∙ sym same.deferred;
  numbers = subst (λ n. NumbersFrom n r.entry) (sym same.variables) own.numbers;
}

-- under what is on top stands the floor
pub floor_under : (r : RegionRun) (k : ℕ) (named : List NamedTerm) (here : RegionView) (f : Continuation ℕ) → AreEndsOldest here.choices → length here.store.marks ≡ length here.choices
    → StandsAfter r k (PlainEntry f ∷ entries_of named here) → IsOverFloor (length r.levels) named here
floor_under r k named here f ends marks h =
    let top = tops_are_own r.levels h.own f (entries_of named here) (sym h.entries) in
    ends_are_floor named here r.levels top.below ends marks (subst (AreOwn (length r.levels)) top.own_is h.are_own).1 top.entries
