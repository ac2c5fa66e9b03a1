-- What a task that has stopped tells of the end of its alternative.
use Rattle.std.specs.Prelude.{◌≡◌, ◌⊎◌, ℕ, None, Some}
use Rattle.au_term.specs.Term.{Term}
use Rattle.tree_model.specs.LegalTrees.{IsLegalTree}
use Rattle.tree_model.specs.Levels.{Place}
use Rattle.public_tree.specs.declared.closing.TaskEnd.TheVariants.{Nothing, Result}
use Rattle.tree_core.specs.Histories.{TreeView, NodesStand, state_of}
use Rattle.task_region.specs.TaskResults.{HasNoChoice, IsResultNow}
use Rattle.task_region.specs.TaskStops.{IsNextFor}
use Rattle.task_region.specs.TaskViews.{TaskView}
use Rattle.task_region.specs.declared.running.TaskStop.TheVariants.{Collect}
use Rattle.task_stops.specs.StopCauses.{StopsThereFor}
use Rattle.task_stops.specs.TaskEnds.{EndsOut, HasRunOut}

-- where a task has run out, the run of its alternative is at its end
abbrev pub EndedRunsAreEmpty : Type 0
EndedRunsAreEmpty =
    (v : TreeView) (w k : ℕ) (a : Place) → NodesStand v → IsLegalTree (state_of v.history)
    → HasRunOut v.nodes a v.history.job.clauses k → EndsOut Nothing None w a k (state_of v.history)

-- a result is all that is left: no inference was taken, or no choice point is left
abbrev pub IsAllLeft : ℕ → TaskView → Type 0
IsAllLeft k task = (k ≡ 0) ⊎ HasNoChoice task

-- where a task has come to such a result, its alternative gives that, with what the task's store has bound
abbrev pub TaskResultsAreGiven : Type 0
TaskResultsAreGiven =
    (v : TreeView) (w k : ℕ) (a : Place) (task : TaskView) (number : ℕ) (result : Term) → NodesStand v → IsLegalTree (state_of v.history)
    → StopsThereFor v.nodes a v.history.job.clauses k task (Collect number) → IsNextFor (Collect number) task → IsAllLeft k task
    → IsResultNow task number result → EndsOut Result (Some result) w a k (state_of v.history)
