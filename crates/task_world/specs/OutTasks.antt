-- What is out to a worker: a task, or the end of a query.
use Rattle.std.specs.Prelude.{◌≡◌, ℕ, true, List, [], ◌∷◌, Option, Some, None, is_some, IsSome}
use Rattle.au_term.specs.Term.{Term}
use Rattle.run_model.specs.Machine.Entries.{EndEntry}
use Rattle.run_model.specs.Programs.Jobs.{Job}
use Rattle.clause_compile.specs.declared.item.Item.{Item as BranchItem}
use Rattle.clause_compile.specs.declared.item.Item.TheVariants.{Goal, CatchEnd, Collect, Remove, End}
use Rattle.region_split.specs.Texts.{TextView}
use Rattle.tree_model.specs.LegalTrees.{IsLegalTree}
use Rattle.tree_model.specs.Legality.{taken_at}
use Rattle.tree_model.specs.Levels.{Place, Spot}
use Rattle.tree_model.specs.TreeStates.{TreeState}
use Rattle.tree_nodes.specs.Rows.{Rows, row_of_node}
use Rattle.tree_nodes.specs.TreeTables.{NodesView, IsTableOf}
use Rattle.tree_core.specs.Histories.{TreeView, state_of}
use Rattle.branch_reading.specs.Readings.{reading}
use Rattle.task_region.specs.KeptRegions.{IsOnWay}
use Rattle.task_region.specs.PlacesUp.{items_at_place}
use Rattle.task_region.specs.TaskLoads.{IsLoadablePlace, LoadsTask}
use Rattle.task_world.specs.declared.out_tasks.OutTask.{OutTask}
use Rattle.task_world.specs.declared.out_tasks.OutTask.TheVariants.{Task, QueryEnd}

-- the ball by which a query ends, if one did, where an item is its end
abbrev pub end_ball : BranchItem → Option (Option Term)
end_ball (Goal term cut) = None
end_ball (CatchEnd scope) = None
end_ball (Collect template scope) = None
end_ball (Remove id) = None
end_ball (End ball) = Some ball

-- where its end comes first
abbrev pub first_end : List BranchItem → Option (Option Term)
first_end [] = None
first_end (item ∷ items) = end_ball item

-- what is out to a worker here ends a query with this ball
abbrev pub EndsQueryAt : ℕ → Place → Option Term → TreeState → Type 0
EndsQueryAt w a ball t = (s : Spot) → taken_at w a t ≡ Some s → s.entry ≡ EndEntry ball

-- by its first item, it does, or it is a task that can be loaded
abbrev pub IsTaskOrEnd : Rows → ℕ → Place → TreeState → Option (Option Term) → Type 0
IsTaskOrEnd rows w a t None = IsLoadablePlace rows a
IsTaskOrEnd rows w a t (Some ball) = EndsQueryAt w a ball t

-- at a node that is there
pub record IsOutOf (rows : Rows) (w : ℕ) (a : Place) (t : TreeState) : Type 0 where
  pub there : IsSome (row_of_node rows a.node)
  pub is : IsTaskOrEnd rows w a t (first_end (items_at_place rows a))

abbrev pub OutsAreTasksOrEnds : Type 0
OutsAreTasksOrEnds =
    (job : Job) (nodes : NodesView) (w : ℕ) (a : Place) (t : TreeState) → IsTableOf nodes (reading job) t.root → IsLegalTree t
    → is_some (taken_at w a t) ≡ true → IsOutOf nodes.rows w a t

-- it was loaded, or ends a query
abbrev pub IsOutThere : TreeView → ℕ → Place → TextView → OutTask → Type 0
IsOutThere v w a text (Task l) = LoadsTask v.nodes a text l.task × IsOnWay v.nodes.rows a text l.numbers.items l.task
IsOutThere v w a text (QueryEnd ball) = EndsQueryAt w a ball (state_of v.history)
