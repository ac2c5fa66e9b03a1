-- An alternative that is out closes, since the private run of its task has come to its end.
use Rattle.std.specs.Prelude.{◌≡◌, ℕ, true, List, Option, Some}
use Rattle.au_term.specs.Term.{Term}
use Rattle.run_model.specs.Machine.Entries.{Entry}
use Rattle.run_model.specs.Programs.Clauses.{Clause}
use Rattle.tree_model.specs.Legality.{run_of, taken_at}
use Rattle.tree_model.specs.Levels.{Place, Spot}
use Rattle.tree_model.specs.TreeStates.{TreeState}
use Rattle.tree_nodes.specs.TreeTables.{NodesView}
use Rattle.public_tree.specs.PublicClosing.{end_credit, ends_run, record_credit}
use Rattle.public_tree.specs.declared.closing.TaskEnd.{TaskEnd}
use Rattle.task_region.specs.TaskViews.{TaskView}
use Rattle.task_region.specs.declared.running.TaskStop.TheVariants.{Empty}
use Rattle.task_stops.specs.StopCauses.{StopsThereFor}

-- own entries are an end, and close with this record or none
pub record EndsWith (e : TaskEnd) (collected : Option Term) (k : ℕ) (run : Option (List Entry)) : Type 0 where
  pub ends : ends_run e run ≡ true
  pub credit : end_credit e k run ≡ record_credit k collected

-- in this tree, the private run of what is out to a worker is at such an end after so many inferences
abbrev pub EndsOut : TaskEnd → Option Term → ℕ → Place → ℕ → TreeState → Type 0
EndsOut e collected w a k t = (s : Spot) → taken_at w a t ≡ Some s → EndsWith e collected k (run_of t s k)

-- of each tree for which the nodes stand, a task has found after so many inferences that nothing is left of the run of this alternative
pub record HasRunOut (nodes : NodesView) (a : Place) (clauses : List Clause) (k : ℕ) : Type 0 where
  pub task : TaskView
  pub stops : StopsThereFor nodes a clauses k task Empty
