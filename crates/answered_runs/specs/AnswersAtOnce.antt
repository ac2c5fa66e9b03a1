-- Private runs that end in an answer and leave nothing else to try, and how the alternative closes.
use Rattle.std.specs.Prelude.{◌≡◌, ◌≤◌, ◌<◌, ℕ, ◌+◌, ◌-◌, true, false, Bool, List, [], ◌∷◌, ◌++◌, map, length, Some, None}
use Rattle.std.specs.List.{list_all}
use Rattle.run_model.specs.Machine.Items.{Continuation, without_marks}
use Rattle.run_model.specs.Machine.Entries.{Entry, PlainEntry, CatchEntry, FindallEntry, EndEntry}
use Rattle.run_model.specs.Goals.Worlds.{writes}
use Rattle.au_model.specs.Writing.Lines.{answer_line}
use Rattle.tree_model.specs.Credits.{Credit, added, credit_of}
use Rattle.tree_model.specs.Levels.{Place, Spot, levels_of}
use Rattle.tree_model.specs.Orders.{clock_of}
use Rattle.tree_model.specs.Closing.{closes}
use Rattle.tree_model.specs.Shapes.{fits_shape}
use Rattle.tree_model.specs.Events.{Event, Claim, Nodes, Answer}
use Rattle.tree_model.specs.TreeStates.{TreeState, leftmost, ended}
use Rattle.tree_model.specs.Legality.{taken_at, run_of}
use Rattle.tree_model.specs.Effects.{grown, spending}
use Rattle.tree_model.specs.Histories.{after_events, are_legal}
use Rattle.tree_model.specs.SoundTrees.{IsSoundTree}
use Rattle.tree_model.specs.CaughtTrees.{IsCaughtTree}

-- what stays of a catch, also when its goal has ended
abbrev pub is_recovery : Entry → Bool
is_recovery (CatchEntry catcher recovery f) = true
is_recovery (PlainEntry f) = false
is_recovery (FindallEntry results l f) = false
is_recovery (EndEntry b) = false

-- the sizes of the nodes of an answer over recoveries: a catch node for each, or one node for the answer
abbrev pub answer_shape : List Entry → List ℕ
answer_shape [] = 1 ∷ []
answer_shape (r ∷ recoveries) = 2 ∷ map (λ e. 2) recoveries

-- no other sizes fit
abbrev pub AnswersFit : Type 0
AnswersFit = (low : ℕ) (f : Continuation ℕ) (recoveries : List Entry) → list_all is_recovery recoveries ≡ true
    → fits_shape low (answer_shape recoveries) (PlainEntry f ∷ recoveries) ≡ true

abbrev pub NoOtherFits : Type 0
NoOtherFits = (low : ℕ) (f : Continuation ℕ) (recoveries : List Entry) (sizes : List ℕ) → list_all is_recovery recoveries ≡ true
    → fits_shape low sizes (PlainEntry f ∷ recoveries) ≡ true → sizes ≡ answer_shape recoveries

-- the answer is the first alternative of the innermost of these nodes, which are numbered from here on
abbrev pub answer_place : ℕ → List Entry → Place
answer_place next recoveries = record { node = (next + length (answer_shape recoveries)) - 1; index = 0 }

-- the run is published, and the answer handed out and taken
abbrev pub answer_events : ℕ → ℕ → Place → ℕ → List Entry → List Event
answer_events next w a k recoveries =
    Nodes w a k (answer_shape recoveries) ∷ Claim w (answer_place next recoveries) ∷ Answer w (answer_place next recoveries) false ∷ []

-- so many inferences of the leftmost pending alternative, which is out to this worker, lead to an answer over recoveries
-- alone, and the budget lasts to the answer
pub record RunsToAnswer (t : TreeState) (w : ℕ) (a : Place) (k : ℕ) (s : Spot) (f : Continuation ℕ) (recoveries : List Entry) : Type 0 where
  pub out : taken_at w a t ≡ Some s
  pub first : leftmost t ≡ Some s
  pub some : 1 ≤ k
  pub run : run_of t s k ≡ Some (PlainEntry f ∷ recoveries)
  pub answers : without_marks f.items ≡ []
  pub spent : list_all is_recovery recoveries ≡ true
  pub running : t.stopped ≡ false
  pub going : ended t ≡ None
  pub lasts : clock_of (levels_of s) + k < t.budget

abbrev pub one_answer : Credit
one_answer = record { inferences = 1; answers = 1; records = [] }

-- the answer is written, and the alternative closes with the inferences of the run and that of the answer; the numbers of
-- the nodes are used up
abbrev pub answered_at_once : TreeState → ℕ → Place → ℕ → Spot → Continuation ℕ → List Entry → TreeState
answered_at_once t w a k s f recoveries =
    let next = t.next + length (answer_shape recoveries) in
    grown (closes next (spending k (levels_of s)) (added (credit_of k) one_answer))
    (record t {
      world = writes (answer_line t.world.operators f.named) t.world;
      history = t.history ++ answer_events t.next w a k recoveries;
    })

abbrev pub AnswersAreLegal : Type 0
AnswersAreLegal =
    (t : TreeState) (w : ℕ) (a : Place) (k : ℕ) (s : Spot) (f : Continuation ℕ) (recoveries : List Entry) → IsSoundTree t
    → RunsToAnswer t w a k s f recoveries → are_legal t (answer_events t.next w a k recoveries) ≡ true

abbrev pub AnswersCloseAtOnce : Type 0
AnswersCloseAtOnce =
    (t : TreeState) (w : ℕ) (a : Place) (k : ℕ) (s : Spot) (f : Continuation ℕ) (recoveries : List Entry) → IsSoundTree t
    → IsCaughtTree t → RunsToAnswer t w a k s f recoveries
    → after_events t (answer_events t.next w a k recoveries) ≡ answered_at_once t w a k s f recoveries
