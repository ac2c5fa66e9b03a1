-- What a task that stops before its first inference tells of the front.
use Rattle.std.specs.Prelude.{◌≡◌, ℕ, List, ◌∷◌, map, Some}
use Rattle.au_model.specs.Terms.Named.{variable_meant}
use Rattle.au_model.specs.declared.types.VarName.{VarName}
use Rattle.task_region.specs.TaskLoads.{LoadsTask, run_on_branch}
use Rattle.branch_reading.specs.Readings.{named_of, query_on, reading}
use Rattle.region_split.specs.Texts.{TextView}
use Rattle.run_model.specs.Programs.Clauses.{Clause}
use Rattle.run_model.specs.Programs.Jobs.{Job, own_terms}
use Rattle.task_region.specs.TaskStops.{IsNextFor, RunsTask, StopsTask}
use Rattle.task_region.specs.TaskViews.{TaskView}
use Rattle.task_region.specs.declared.running.TaskRan.{TaskRan}
use Rattle.task_region.specs.declared.running.TaskStop.{TaskStop}
use Rattle.task_region.specs.declared.running.TaskStop.TheVariants.{Removal, Answer}
use Rattle.tree_model.specs.LegalTrees.{IsLegalTree}
use Rattle.tree_model.specs.Legality.{taken_at}
use Rattle.tree_model.specs.Levels.{Level, Place, plug, place_at, Spot, levels_of}
use Rattle.tree_model.specs.Nodes.{Status}
use Rattle.tree_model.specs.TreeStates.{TreeState}
use Rattle.tree_nodes.specs.Bodies.{Branching, Reading}
use Rattle.tree_nodes.specs.Rows.{Rows}
use Rattle.tree_nodes.specs.TreeTables.{NodesView, IsTableOf, IsWayTo}
use Rattle.task_world.specs.FrontItems.{IsAnswerNext, IsRemovalNext, terms_named}

-- of each tree for which the nodes stand, a task stops so before the first inference on the run of this alternative
abbrev pub StopsAtOnce : NodesView → Place → List Clause → TaskView → TaskStop → Type 0
StopsAtOnce nodes a clauses t stop =
    (job : Job) (read : Reading) (v : Level) (up : List Level) (was : Status) (way : Branching) → place_at v ≡ a
    → IsTableOf nodes read (plug (v ∷ up) was) → IsWayTo nodes.rows (v ∷ up) way
    → StopsTask (run_on_branch clauses (v ∷ up) job way) 0 (named_of (query_on job way)) t stop

pub record StopsAtFront (nodes : NodesView) (a : Place) (clauses : List Clause) (t : TaskView) (stop : TaskStop) : Type 0 where
  pub stops : StopsAtOnce nodes a clauses t stop
  pub next : IsNextFor stop t

-- one that was loaded and run does, where it took none
abbrev pub LoadedTasksStopAtFront : Type 0
LoadedTasksStopAtFront = (nodes : NodesView) (a : Place) (text : TextView) (old new : TaskView) (limit : ℕ) (ran : TaskRan) → LoadsTask nodes a text old
    → RunsTask old new limit ran → ran.taken ≡ 0 → StopsAtFront nodes a text.clauses new ran.stop

-- the nodes stand for a tree as that of a legal history
pub record IsTreeAt (job : Job) (nodes : NodesView) (t : TreeState) : Type 0 where
  pub placed : IsTableOf nodes (reading job) t.root
  pub legal : IsLegalTree t

-- before a removal that is next of its alternative
abbrev pub RemovalsAreTold : Type 0
RemovalsAreTold = (job : Job) (nodes : NodesView) (t : TreeState) (w : ℕ) (a : Place) (clauses : List Clause) (task : TaskView) (number : ℕ)
    → IsTreeAt job nodes t → StopsAtFront nodes a clauses task (Removal number) → IsRemovalNext number w a t

-- these are the names of the query of what is out
abbrev pub AreItsNames : Job → Rows → List VarName → ℕ → Place → TreeState → Type 0
AreItsNames job rows names w a t = (s : Spot) (way : Branching) → taken_at w a t ≡ Some s → IsWayTo rows (levels_of s) way
    → own_terms (map variable_meant names) ≡ named_of (query_on job way)

-- or an answer, with what the task's store has bound
abbrev pub AnswersAreTold : Type 0
AnswersAreTold = (job : Job) (nodes : NodesView) (t : TreeState) (w : ℕ) (a : Place) (clauses : List Clause) (task : TaskView) (names : List VarName)
    → IsTreeAt job nodes t → StopsAtFront nodes a clauses task Answer → AreItsNames job nodes.rows names w a t
    → IsAnswerNext (terms_named task.region.store names) w a t
