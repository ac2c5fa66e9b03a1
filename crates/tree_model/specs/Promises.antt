-- What is promised of every legal history of a job.
use Rattle.std.specs.Prelude.{◌≡◌, ◌≢◌, ◌⊎◌, ℕ, ◌≤◌, false, List, [], ◌∷◌, ◌++◌, Some, None}
use Rattle.run_model.specs.declared.ending.RunEnding.{RunEnding}
use Rattle.run_model.specs.declared.ending.RunEnding.TheVariants.{Budget}
use Rattle.run_model.specs.Programs.Jobs.{Job}
use Rattle.run_model.specs.Machine.Runs.{seq, text_of, ending_of, answers_of, inferences_of}
use Rattle.run_model.specs.Laws.RunLaws.{IsPrefixOf}
use Rattle.tree_model.specs.Credits.{greatest}
use Rattle.tree_model.specs.Levels.{Place, Spot, levels_of, place_of_spot}
use Rattle.tree_model.specs.Orders.{clock_of}
use Rattle.tree_model.specs.Pruning.{Task, tasks_below}
use Rattle.tree_model.specs.Events.{Event, Answer}
use Rattle.tree_model.specs.TreeStates.{TreeState, leftmost, ended, counts}
use Rattle.tree_model.specs.Legality.{claimable, resumable}
use Rattle.tree_model.specs.Histories.{tree_after, IsLegalHistory}
use Rattle.tree_model.specs.HandOuts.{Never, handed_after}

-- what was written is a front of the sequential text; while the tree has not ended, its world is the one after as many
-- inferences as its leftmost clock shows
pub record KeepsPrefix (job : Job) (budget : ℕ) (t : TreeState) : Type 0 where
  pub text : IsPrefixOf t.world.written (text_of job budget)
  pub world : (s : Spot) → leftmost t ≡ Some s → ended t ≡ None → t.world ≡ (seq job (clock_of (levels_of s))).world

-- a tree that has ended has the sequential text, ending and answers, and short of the budget the sequential counts
pub record EndsRight (job : Job) (budget : ℕ) (t : TreeState) : Type 0 where
  pub text : (e : RunEnding) → ended t ≡ Some e → t.world.written ≡ text_of job budget
  pub ending : (e : RunEnding) → ended t ≡ Some e → e ≡ ending_of job budget
  pub answered : (e : RunEnding) → ended t ≡ Some e → (counts t).0 ≡ answers_of job budget
  pub counted : (e : RunEnding) → ended t ≡ Some e → e ≢ Budget → counts t ≡ (answers_of job budget, inferences_of job budget)

-- of every budget that a count can reach
abbrev pub Prefix : Type 0
Prefix = (job : Job) (budget window : ℕ) (es : List Event) → budget ≤ greatest → IsLegalHistory job budget window es
    → KeepsPrefix job budget (tree_after job budget window es)

abbrev pub End : Type 0
End = (job : Job) (budget window : ℕ) (es : List Event) → budget ≤ greatest → IsLegalHistory job budget window es
    → EndsRight job budget (tree_after job budget window es)

-- no alternative is claimed twice, or out to two workers
abbrev pub Once : Type 0
Once = (job : Job) (budget window : ℕ) (es : List Event) (a : Place) → IsLegalHistory job budget window es → handed_after a es Never ≢ None

-- what an event changes of the world, it changes by an answer at the leftmost pending alternative
pub record IsFrontAnswer (t : TreeState) (e : Event) : Type 0 where
  pub worker : ℕ
  pub spot : Spot
  pub is_leftmost : leftmost t ≡ Some spot
  pub is_answer : e ≡ Answer worker (place_of_spot spot) false

abbrev pub NoPrunedEffect : Type 0
NoPrunedEffect = (job : Job) (budget window : ℕ) (es : List Event) (e : Event) → IsLegalHistory job budget window (es ++ e ∷ []) →
    (tree_after job budget window (es ++ e ∷ [])).world ≡ (tree_after job budget window es).world ⊎ IsFrontAnswer
    (tree_after job budget window es) e

-- where nobody has a task, there is one to take
abbrev pub tasks_out : TreeState → List Task
tasks_out t = tasks_below 0 0 t.root ++ t.lost

abbrev pub NeverStuck : Type 0
NeverStuck = (job : Job) (budget window : ℕ) (es : List Event) → IsLegalHistory job budget window es
    → ended (tree_after job budget window es) ≡ None →
    (tree_after job budget window es).stopped ≡ false → tasks_out (tree_after job budget window es) ≡ [] →
    claimable (tree_after job budget window es) ≢ None ⊎ resumable (tree_after job budget window es) ≢ None
