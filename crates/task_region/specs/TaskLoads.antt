-- The region of a task that is loaded from the tree.
use Rattle.std.specs.Prelude.{◌≡◌, ◌==◌, ℕ, Bool, true, false, not, List, [], ◌∷◌, Some, IsSome}
use Rattle.au_term.specs.Term.{VarTerm}
use Rattle.au_model.specs.Terms.MostGeneral.{SameValues}
use Rattle.au_model.specs.Terms.Substitutions.{value_of}
use Rattle.run_model.specs.Machine.Entries.{PlainEntry}
use Rattle.run_model.specs.Machine.Items.{Continuation}
use Rattle.run_model.specs.Programs.Clauses.{Clause}
use Rattle.run_model.specs.Programs.Jobs.{Job}
use Rattle.cell_store.specs.StoreView.{Moment}
use Rattle.region_floor.specs.Deferred.{all_deferred}
use Rattle.region_floor.specs.RegionRuns.{RegionRun, by_heights}
use Rattle.region_split.specs.Regions.{RegionView}
use Rattle.region_split.specs.Texts.{TextView}
use Rattle.task_region.specs.TaskStandings.{StandsOnRun}
use Rattle.task_region.specs.TaskViews.{TaskView}
use Rattle.tree_model.specs.Floors.{with_heights}
use Rattle.tree_model.specs.Levels.{Level, Place, plug, place_at}
use Rattle.tree_model.specs.Nodes.{Hold, Status, Pending}
use Rattle.tree_model.specs.NumberedTrees.{IsNumberedStatus}
use Rattle.tree_nodes.specs.Bodies.{BodyKind, ChoiceBody, ConditionBody, CatchBody, FindallBody, QueryBody, Branching, Reading}
use Rattle.tree_nodes.specs.Rows.{Rows, row_of_node}
use Rattle.tree_nodes.specs.TreeTables.{NodesView, IsTableOf, IsWayTo}
use Rattle.branch_reading.specs.BranchSegments.{segments_on, bindings_on, bound_by, next_number}
use Rattle.branch_reading.specs.Readings.{continuation_on, named_of, query_on, reading}
use Rattle.branch_reading.specs.SettledWays.{binds_variable, is_way_settled}
use Rattle.task_region.specs.PlacesUp.{AreAllUp, branching_at}

-- the second alternative of a catch or a findall is no task while it sleeps, and goes on below a node of its own
abbrev pub is_task_at : BodyKind → ℕ → Bool
is_task_at ChoiceBody i = true
is_task_at ConditionBody i = true
is_task_at (CatchBody catcher recovery) i = not (i == 1)
is_task_at (FindallBody results list) i = not (i == 1)
is_task_at QueryBody i = true

abbrev pub is_task_on : Branching → Bool
is_task_on [] = true
is_task_on ((b, i) ∷ way) = is_task_at b.kind i

-- a branch that a task can take over: it is settled, and so not the end of a query
pub record CanBeLoaded (way : Branching) : Type 0 where
  pub settled : is_way_settled way ≡ true
  pub task : is_task_on way ≡ true

-- the branch of a place, by the nodes that are there
abbrev pub HasLoadableBranch : Rows → Place → Type 0
HasLoadableBranch rows a = (places : List Place) → AreAllUp rows a places → CanBeLoaded (branching_at rows places)

-- the private run of what a branch reads as, of which all is deferred
abbrev pub run_on_branch : List Clause → List Level → Job → Branching → RegionRun
run_on_branch clauses levels job way = record {
  clauses = clauses;
  levels = levels;
  entry = with_heights levels (reading job way);
  deferred = all_deferred (by_heights levels (continuation_on job way));
}

-- of each tree for which the nodes stand, the task stands at the start of the run of its alternative, whatever the job is
abbrev pub StandsAtStart : NodesView → Place → List Clause → TaskView → Type 0
StandsAtStart nodes a clauses t =
    (job : Job) (read : Reading) (v : Level) (up : List Level) (was : Status) (way : Branching) → place_at v ≡ a
    → IsTableOf nodes read (plug (v ∷ up) was) → IsWayTo nodes.rows (v ∷ up) way
    → StandsOnRun (run_on_branch clauses (v ∷ up) job way) 0 (named_of (query_on job way)) t

-- what was bound at a moment is what is bound on a branch, and nothing else, with its next variable number
pub record IsBoundOnBranch (way : Branching) (m : Moment) : Type 0 where
  pub bound : SameValues (bound_by (segments_on way)) (Some m.bound)
  pub free : (v : ℕ) → binds_variable v (bindings_on (segments_on way)) ≡ false → value_of m.bound v ≡ VarTerm v
  pub next : m.next ≡ next_number (segments_on way)

-- a region has this text, no choice point, and what is bound at the places up a branch
pub record IsBoundOver (rows : Rows) (places : List Place) (text : TextView) (r : RegionView) : Type 0 where
  pub bound : IsBoundOnBranch (branching_at rows places) r.store.now
  pub text_is : r.text ≡ text
  pub no_choice : r.choices ≡ []

-- of each such tree, the floor of the task's store is what is bound on the branch of its alternative
abbrev pub StartsOnBranch : NodesView → Place → TaskView → Type 0
StartsOnBranch nodes a t =
    (job : Job) (read : Reading) (v : Level) (up : List Level) (was : Status) (way : Branching) → place_at v ≡ a
    → IsTableOf nodes read (plug (v ∷ up) was) → IsWayTo nodes.rows (v ∷ up) way → IsBoundOnBranch way t.region.store.floor

pub record LoadsTask (nodes : NodesView) (a : Place) (text : TextView) (t : TaskView) : Type 0 where
  pub stands : StandsAtStart nodes a text.clauses t
  pub start : StartsOnBranch nodes a t
  pub going : IsSome t.next
  pub text_is : t.region.text ≡ text

-- what the nodes have to know to load a task
pub record IsLoadablePlace (rows : Rows) (a : Place) : Type 0 where
  pub there : IsSome (row_of_node rows a.node)
  pub loadable : HasLoadableBranch rows a

-- in a tree whose entries are numbered, each pending alternative with a plain entry is one
abbrev pub PlainEntriesLoad : Type 0
PlainEntriesLoad =
    (job : Job) (nodes : NodesView) (root : Status) → IsTableOf nodes (reading job) root → IsNumberedStatus root
    → (v : Level) (up : List Level) (hold : Hold) (f : Continuation ℕ) → plug (v ∷ up) (Pending hold (PlainEntry f)) ≡ root
    → IsLoadablePlace nodes.rows (place_at v)
