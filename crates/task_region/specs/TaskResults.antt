-- The result for a findall of the branch to which a task has come.
use Rattle.std.specs.Prelude.{◌≡◌, ℕ, Some, slice_get}
use Rattle.au_term.specs.Term.{Term}
use Rattle.au_model.specs.Terms.Each.{Each}
use Rattle.au_model.specs.Terms.Substitutions.{resolve}
use Rattle.run_model.specs.Machine.Items.{CollectMark}
use Rattle.region_split.specs.QueryEnds.{IsEnd}
use Rattle.task_region.specs.TaskViews.{TaskView}

-- no choice point is left but the ends that are the floor
abbrev pub HasNoChoice : TaskView → Type 0
HasNoChoice t = Each (λ c. IsEnd c.alternatives) t.region.choices

-- a result is deferred under a number, and with what is bound now it is this term
abbrev pub IsResultNow : TaskView → ℕ → Term → Type 0
IsResultNow t number term =
    (template : Term) × (h : ℕ) × (slice_get t.deferred number ≡ Some (CollectMark template h)) × (term ≡ resolve t.region.store.now.bound template)
