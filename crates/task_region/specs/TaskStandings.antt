-- Where a task stands on the private run of its branch.
use Rattle.std.specs.Prelude.{◌≡◌, ℕ, List, length, IfSome}
use Rattle.au_model.specs.Terms.Each.{Each}
use Rattle.au_model.specs.Terms.Named.{NamedTerm}
use Rattle.region_split.specs.ClauseTrials.{IsOptionalPosition}
use Rattle.region_floor.specs.NextNumbers.{NumbersFrom}
use Rattle.region_floor.specs.RegionRuns.{RegionRun, StandsAfter}
use Rattle.task_region.specs.DeferredItems.{IsDeferredOver}
use Rattle.task_region.specs.TaskViews.{TaskView, task_stack}

-- the private run of the branch for which a task was handed out
pub record IsOwnRun (r : RegionRun) (named : List NamedTerm) (t : TaskView) : Type 0 where
  pub clauses : r.clauses ≡ t.region.text.clauses
  pub levels : length r.levels ≡ t.floor
  pub named_are : r.deferred.named ≡ length named
  pub items : r.deferred.items ≡ t.deferred
  pub numbers : NumbersFrom t.variables r.entry

-- a task stands where its run is after so many inferences
pub record StandsOnRun (r : RegionRun) (k : ℕ) (named : List NamedTerm) (t : TaskView) : Type 0 where
  pub own : IsOwnRun r named t
  pub stands : StandsAfter r k (task_stack named t)

-- there is a run on which it stands
pub record HasOwnRun (t : TaskView) : Type 0 where
  pub run : RegionRun
  pub inferences : ℕ
  pub named : List NamedTerm
  pub stands : StandsOnRun run inferences named t

-- what is deferred has variables and marks of the branch, and where a task goes on, its run is
pub record IsUnderWay (t : TaskView) : Type 0 where
  pub deferred : Each (IsDeferredOver t.variables t.floor) t.deferred
  pub next : IsOptionalPosition t.region (length t.region.choices) t.next
  pub run : HasOwnRun t

pub record IsTask (t : TaskView) : Type 0 where
  pub deferred : Each (IsDeferredOver t.variables t.floor) t.deferred
  pub next : IsOptionalPosition t.region (length t.region.choices) t.next
  pub run : IfSome t.next (λ p. HasOwnRun t)
