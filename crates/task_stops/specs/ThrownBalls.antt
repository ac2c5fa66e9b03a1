-- A ball that the first goal of an alternative throws (ISO/IEC 13211-1, 7.8.9 and 7.8.10).
use Rattle.std.specs.Prelude.{◌≡◌, ℕ, List, ◌∷◌, Some}
use Rattle.au_term.specs.Term.{Term}
use Rattle.au_model.specs.Terms.Copies.{copied}
use Rattle.run_model.specs.Goals.GoalOutcomes.{outcome_of}
use Rattle.run_model.specs.Goals.Outcomes.{Ball, Replies}
use Rattle.run_model.specs.Machine.Entries.{Entry, PlainEntry}
use Rattle.run_model.specs.Machine.Items.{Item, GoalItem, Continuation, without_marks}
use Rattle.run_model.specs.Programs.Clauses.{Clause}
use Rattle.tree_model.specs.Effects.{spot_stack}
use Rattle.tree_model.specs.LegalTrees.{IsLegalTree}
use Rattle.tree_model.specs.Legality.{gate_of, taken_at}
use Rattle.tree_model.specs.Levels.{Place, Spot}
use Rattle.tree_model.specs.Nodes.{BallGate}
use Rattle.tree_model.specs.TreeStates.{TreeState}
use Rattle.tree_core.specs.Histories.{TreeView, NodesStand, state_of}
use Rattle.task_region.specs.TaskViews.{TaskView}
use Rattle.task_region.specs.declared.running.TaskStop.TheVariants.{Ball as BallStop}
use Rattle.task_stops.specs.StopCauses.{StopsThereFor}

-- the first goal of a stack, past the ends of catches, throws this term
pub record ThrowsFirst (clauses : List Clause) (stack : List Entry) (thrown : Term) : Type 0 where
  pub top : Continuation ℕ
  pub under : List Entry
  pub entries : stack ≡ PlainEntry top ∷ under
  pub goal : Term
  pub height : ℕ
  pub behind : List (Item ℕ)
  pub first : without_marks top.items ≡ GoalItem goal height ∷ behind
  pub outcome : outcome_of clauses goal top.next ≡ Replies (Ball thrown)

-- an alternative is at the gate of a ball: a copy of what its first goal throws, with its variables numbered from 0
pub record IsAtBall (t : TreeState) (s : Spot) (ball : Term) : Type 0 where
  pub thrown : Term
  pub throws : ThrowsFirst t.job.clauses (spot_stack s) thrown
  pub ball_is : ball ≡ copied thrown 0
  pub node : ℕ
  pub gate : gate_of t s ≡ Some (BallGate node)

-- in this tree, what is out to a worker
abbrev pub ThrowsThere : ℕ → Place → Term → TreeState → Type 0
ThrowsThere w a ball t = (s : Spot) → taken_at w a t ≡ Some s → IsAtBall t s ball

-- as it is where a task has stopped at that ball before any inference
abbrev pub BallStopsThrow : Type 0
BallStopsThrow = (v : TreeView) (w : ℕ) (a : Place) (task : TaskView) (ball : Term) → NodesStand v → IsLegalTree (state_of v.history)
    → StopsThereFor v.nodes a v.history.job.clauses 0 task (BallStop ball) → ThrowsThere w a ball (state_of v.history)
