-- How the region of a task starts.
use Rattle.std.specs.Prelude.{◌≡◌, ℕ, List, length, IsSome}
use Rattle.au_model.specs.Terms.Named.{NamedTerm}
use Rattle.run_model.specs.Programs.Clauses.{Clause}
use Rattle.run_model.specs.Machine.Items.{Item, Continuation}
use Rattle.tree_model.specs.Levels.{Level}
use Rattle.region_split.specs.Regions.{RegionView}
use Rattle.region_floor.specs.RegionRuns.{StandsAfter, run_from}
use Rattle.task_region.specs.BareRegions.{IsOverFloor}
use Rattle.task_region.specs.TaskViews.{TaskView, task_stack}

-- over a branch of so many nodes all is deferred that an alternative had, and what the store has bound is bound in it: the task
-- stands at the start of its private run
pub record StartsTask (old : RegionView) (floor : ℕ) (items : List (Item ℕ)) (t : TaskView) : Type 0 where
  pub stands : (clauses : List Clause) (levels : List Level) (f : Continuation ℕ) → length levels ≡ floor → f.items ≡ items → f.next ≡ old.store.now.next
      → StandsAfter (run_from clauses levels old.store.now.bound f) 0 (task_stack f.named t)
  pub going : IsSome t.next
  pub over : (named : List NamedTerm) → IsOverFloor floor named t.region
  pub floor_is : t.floor ≡ floor
  pub deferred : t.deferred ≡ items
  pub variables : t.variables ≡ old.store.now.next
  pub text : t.region.text ≡ old.text
  pub start : t.region.store.floor ≡ old.store.now
  pub next : t.region.store.now.next ≡ old.store.now.next
