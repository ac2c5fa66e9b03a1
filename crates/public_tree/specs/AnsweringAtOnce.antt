-- A private run that ends in an answer over recoveries alone is made public, and its answer taken, at once.
use Rattle.std.specs.Prelude.{◌≡◌, ◌≢◌, ℕ, zero, suc, ◌+◌, ◌-◌, Bool, true, false, cond, nat_lt, replicate, List, [], ◌∷◌, length, Option, Some, None}
use Rattle.std.specs.List.{list_all}
use Rattle.run_model.specs.Machine.Items.{Continuation, without_marks}
use Rattle.run_model.specs.Machine.Entries.{Entry, PlainEntry}
use Rattle.tree_model.specs.Closing.{closes}
use Rattle.tree_model.specs.Credits.{Credit, credit_of, added}
use Rattle.tree_model.specs.Effects.{spending}
use Rattle.tree_model.specs.Events.{Event, Claim, Nodes, Answer}
use Rattle.tree_model.specs.EventViews.{place_view}
use Rattle.tree_model.specs.Legality.{taken_at, run_of}
use Rattle.tree_model.specs.Levels.{Level, plug, Place, place_at, Spot, levels_of}
use Rattle.tree_model.specs.Nodes.{Status}
use Rattle.tree_model.specs.Orders.{clock_of}
use Rattle.tree_model.specs.SoundTrees.{IsSound}
use Rattle.tree_model.specs.CaughtTrees.{IsCaughtTree}
use Rattle.tree_model.specs.TreeStates.{TreeState, leftmost}
use Rattle.tree_nodes.specs.Bodies.{Body, Reading}
use Rattle.tree_nodes.specs.Changes.{SetsCell}
use Rattle.tree_nodes.specs.Gathering.{is_shut_at}
use Rattle.tree_nodes.specs.Rows.{ClosedCell, cell_at, credit_view}
use Rattle.tree_nodes.specs.TreeTables.{NodesView, IsTableOf}
use Rattle.tree_closing.specs.Closings.{ComesToRest, is_waking}
use Rattle.tree_closing.specs.declared.way_up.Beside.{Beside}
use Rattle.tree_closing.specs.declared.way_up.Closing.{Closing}
use Rattle.answered_runs.specs.AnswersAtOnce.{is_recovery}
use Rattle.public_tree.specs.declared.answering_at_once.RunAnswering.{RunAnswering}
use Rattle.public_tree.specs.declared.answering_at_once.RunAnswering.TheVariants as answering
use Rattle.public_tree.specs.PublicTrees.{PublicView, IsPublicOf, Answers, NotesAllIn, IsSameTree, is_going}
use Rattle.public_tree.specs.PublicClosing.{ReadsAs, IsGrownTo}
use Rattle.public_tree.specs.Answering.{answer_credit, is_first_at}

-- the sizes of the nodes of an answer over so many recoveries: a catch node for each, or one node for the answer
abbrev pub answer_sizes : ℕ → List ℕ
answer_sizes zero = 1 ∷ []
answer_sizes (suc n) = 2 ∷ replicate n 2

-- the answer is the first alternative of the innermost of these nodes, which are numbered from here on
abbrev pub leaf_place : ℕ → ℕ → Place
leaf_place next recoveries = record { node = (next + length (answer_sizes recoveries)) - 1; index = 0 }

-- the nodes are made, and the answer is handed out and taken
abbrev pub run_events : ℕ → ℕ → Place → ℕ → ℕ → List Event
run_events next w a k recoveries =
    Nodes w a k (answer_sizes recoveries) ∷ Claim w (leaf_place next recoveries) ∷ Answer w (leaf_place next recoveries) false ∷ []

-- the credit with which the run and its answer close
abbrev pub run_credit : ℕ → Credit
run_credit k = added (credit_of k) answer_credit

-- so many inferences lead to an answer over so many recoveries alone
pub record RunsTo (t : TreeState) (s : Spot) (k recoveries : ℕ) : Type 0 where
  pub answer : Continuation ℕ
  pub over : List Entry
  pub run : run_of t s k ≡ Some (PlainEntry answer ∷ over)
  pub answers : without_marks answer.items ≡ []
  pub spent : list_all is_recovery over ≡ true
  pub many : length over ≡ recoveries

-- in this tree, the private run of what is out has come after so many inferences to an answer over so many recoveries alone,
-- what closes with them comes to rest there, and what wakes by that reads as the body that is given
pub record RunAnswersAs (nodes : NodesView) (closing : Closing) (body : Option Body) (w : ℕ) (a : Place) (k recoveries : ℕ)
    (read : Reading) (t : TreeState) : Type 0 where
  pub runs : (s : Spot) → taken_at w a t ≡ Some s → RunsTo t s k recoveries
  pub rests : ComesToRest nodes a (run_credit k) (place_view closing.end) (credit_view closing.credit) closing.beside
  pub given : ReadsAs read nodes.rows (place_view closing.end) (credit_view closing.credit).records (is_waking closing.beside) body

-- whether the budget lasts so many inferences more at the leftmost entry
abbrev pub lasts_at : ℕ → ℕ → Option Spot → Bool
lasts_at k budget None = false
lasts_at k budget (Some s) = nat_lt (clock_of (levels_of s) + k) budget

abbrev pub lasts : ℕ → TreeState → Bool
lasts k t = lasts_at k t.budget (leftmost t)

-- whether such a run may be taken at once, or what keeps it from that
abbrev pub run_answering : Place → ℕ → TreeState → RunAnswering
run_answering a k t =
    cond (is_going t) (cond (is_first_at a t) (cond (lasts k t) answering.Taken answering.OverBudget) answering.NotLeftmost) answering.HasEnded

-- what keeps such a run from being taken, if something does
abbrev pub IsRunBarred : PublicView → Place → ℕ → Option RunAnswering → Type 0
IsRunBarred p a k None = Answers p (run_answering a k) answering.Taken
IsRunBarred p a k (Some answer) = (answer ≢ answering.Taken) × Answers p (run_answering a k) answer

-- in each legal tree for which it stands and of which this holds the run is made public and its answer taken; or nothing has
-- happened
abbrev pub TakesRun : PublicView → PublicView → ℕ → Place → ℕ → ℕ → (ℕ → Place → ℕ → ℕ → Reading → TreeState → Type 0) → RunAnswering → Type 0
TakesRun old new w a k recoveries Known answering.Taken =
    (read : Reading) (t : TreeState) → IsPublicOf old read t → IsCaughtTree t → Known w a k recoveries read t
    → NotesAllIn old new (run_events t.next w a k recoveries) read t
TakesRun old new w a k recoveries Known answering.NotLeftmost = IsSameTree old new
TakesRun old new w a k recoveries Known answering.HasEnded = IsSameTree old new
TakesRun old new w a k recoveries Known answering.OverBudget = IsSameTree old new

-- so many tasks are promised to come back
abbrev pub promised_by_run : RunAnswering → ℕ → ℕ
promised_by_run answering.Taken n = n - 1
promised_by_run answering.NotLeftmost n = n
promised_by_run answering.HasEnded n = n
promised_by_run answering.OverBudget n = n

-- where an alternative has closed, it has closed with this credit, and so many inferences are spent on it
pub record SpendsOnClosed (old new : NodesView) (a : Place) (spent : ℕ) (c : Credit) : Type 0 where
  pub closed : is_shut_at (cell_at old.rows a) ≡ true → SetsCell old new a spent (ClosedCell c)
  pub other : is_shut_at (cell_at old.rows a) ≡ false → new ≡ old

-- so many numbers are drawn that name no node, and what began to close with a run of so many inferences and its answer has
-- closed, with these inferences spent on it
abbrev pub RunRestsIn : NodesView → NodesView → Place → ℕ → ℕ → Closing → Option Body → Type 0
RunRestsIn old new a k skipped closing body =
    (read : Reading) (v : Level) (up : List Level) (was : Status)
    → ComesToRest old a (run_credit k) (place_view closing.end) (credit_view closing.credit) closing.beside → place_at v ≡ a
    → IsTableOf old read (plug (v ∷ up) was) → IsSound [] (plug (v ∷ up) was)
    → ReadsAs read old.rows (place_view closing.end) (credit_view closing.credit).records (is_waking closing.beside) body
    → IsGrownTo new read (closes (length old.rows + skipped) (spending k (v ∷ up)) (run_credit k))
