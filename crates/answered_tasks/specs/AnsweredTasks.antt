-- A task that has come to an answer, with nothing left over its floor but catches whose goals have ended: to what the run of its
-- alternative comes, and what comes of it.
use Rattle.std.specs.Prelude.{◌≡◌, ◌≢◌, ◌⊎◌, ℕ, List, Option, Some, None}
use Rattle.au_model.specs.Terms.Named.{NamedTerm}
use Rattle.au_model.specs.declared.types.VarName.{VarName}
use Rattle.public_tree.specs.AnsweringAtOnce.{RunsTo, run_answering, run_events}
use Rattle.public_tree.specs.declared.answering_at_once.RunAnswering.TheVariants.{Taken}
use Rattle.task_region.specs.TaskCatches.{HasCatchesAlone, HasOtherChoice}
use Rattle.task_region.specs.TaskStops.{IsNextFor}
use Rattle.task_region.specs.TaskViews.{TaskView}
use Rattle.task_region.specs.declared.running.TaskStop.TheVariants.{Answer}
use Rattle.task_stops.specs.StopCauses.{StopsThereFor}
use Rattle.task_world.specs.FrontItems.{terms_named}
use Rattle.task_world.specs.FrontsTold.{AreItsNames}
use Rattle.tree_core.specs.Histories.{History, TreeView, NodesStand, state_of, with_events}
use Rattle.tree_model.specs.Legality.{taken_at}
use Rattle.tree_model.specs.LegalTrees.{IsLegalTree}
use Rattle.tree_model.specs.Levels.{Place, Spot}
use Rattle.tree_model.specs.TreeStates.{TreeState}

-- so many inferences lead to an answer over so many recoveries alone, in which the query's named variables stand for these terms
pub record AnswersAlone (t : TreeState) (s : Spot) (k recoveries : ℕ) (named : List NamedTerm) : Type 0 where
  pub runs : RunsTo t s k recoveries
  pub named_are : runs.answer.named ≡ named

-- what is out does
abbrev pub OutAnswersAlone : List NamedTerm → ℕ → ℕ → Place → ℕ → TreeState → Type 0
OutAnswersAlone named recoveries w a k t = (s : Spot) → taken_at w a t ≡ Some s → AnswersAlone t s k recoveries named

-- after so many inferences the task of an alternative has stopped at an answer
pub record HasStoppedAtAnswer (v : TreeView) (a : Place) (k : ℕ) (task : TaskView) : Type 0 where
  pub stops : StopsThereFor v.nodes a v.history.job.clauses k task Answer
  pub next : IsNextFor Answer task

-- where so many catches alone are left of a task, its run does, with what the task's store has bound
abbrev pub AnsweredTasksRunAlone : Type 0
AnsweredTasksRunAlone =
    (v : TreeView) (w : ℕ) (a : Place) (k catches : ℕ) (task : TaskView) (names : List VarName) → NodesStand v → IsLegalTree (state_of v.history)
    → HasStoppedAtAnswer v a k task → HasCatchesAlone task catches → AreItsNames v.history.job v.nodes.rows names w a (state_of v.history)
    → OutAnswersAlone (terms_named task.region.store names) catches w a k (state_of v.history)

-- the run became public and its answer was taken, by the three events for so many recoveries; no query was opened
pub record IsAnsweredAtOnce (old new : History) (w : ℕ) (a : Place) (k recoveries : ℕ) : Type 0 where
  pub may : run_answering a k (state_of old) ≡ Taken
  pub noted : new ≡ with_events (run_events (state_of old).next w a k recoveries) old
  pub queries : (state_of new).queries ≡ (state_of old).queries

-- with as many catches as are left of the task
pub record IsTaskAnswered (old new : TreeView) (w : ℕ) (a : Place) (k : ℕ) (task : TaskView) : Type 0 where
  pub catches : ℕ
  pub alone : HasCatchesAlone task catches
  pub answered : IsAnsweredAtOnce old.history new.history w a k catches

-- something keeps it from that: its alternative is not the leftmost entry, the tree has ended or was stopped, or the budget does
-- not last; or it has something else to try
abbrev pub IsKeptFromAnswer : TreeState → Place → ℕ → TaskView → Type 0
IsKeptFromAnswer t a k task = (run_answering a k t ≢ Taken) ⊎ HasOtherChoice task

pub record IsGivenBackAsItWas (old new : TreeView) (a : Place) (k : ℕ) (task left : TaskView) : Type 0 where
  pub kept : IsKeptFromAnswer (state_of old.history) a k task
  pub left_is : left ≡ task
  pub tree : new ≡ old

-- the task was answered, or is given back
abbrev pub ComesOfAnswer : TreeView → TreeView → ℕ → Place → ℕ → TaskView → Option TaskView → Type 0
ComesOfAnswer old new w a k task None = IsTaskAnswered old new w a k task
ComesOfAnswer old new w a k task (Some left) = IsGivenBackAsItWas old new a k task left
