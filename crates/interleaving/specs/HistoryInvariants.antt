-- What a legal history keeps of the sequential run: from some inference within the budget on, the sequential run is seen
-- as the run of the tree's list in the tree's world.
use Rattle.std.specs.Prelude.{◌≡◌, ℕ, suc, ◌+◌, ◌≤◌, ◌<◌, false, true, List, [], ◌∷◌, Option, Some, None}
use Rattle.run_model.specs.Programs.Clauses.{Clause}
use Rattle.au_term.specs.Term.{Term}
use Rattle.run_model.specs.Goals.Worlds.{World}
use Rattle.run_model.specs.Goals.GoalOutcomes.{outcome_of}
use Rattle.run_model.specs.Machine.Items.{Item, GoalItem, Continuation, without_marks}
use Rattle.tree_model.specs.Halting.{HaltsBy}
use Rattle.run_model.specs.Machine.Entries.{PlainEntry}
use Rattle.run_model.specs.Programs.Jobs.{Job}
use Rattle.tree_model.specs.Credits.{greatest}
use Rattle.tree_model.specs.Levels.{Place, Spot}
use Rattle.tree_model.specs.Events.{Event, Claim, Nodes, Empty, Collected, Lost, Suspend, Resume, Prune, Answer, Stop}
use Rattle.tree_model.specs.TreeStates.{TreeState, leftmost}
use Rattle.tree_model.specs.Legality.{is_legal}
use Rattle.tree_model.specs.Effects.{after_event}
use Rattle.tree_model.specs.PendingLists.{pending_list}
use Rattle.tree_model.specs.SoundTrees.{IsSoundTree}
use Rattle.tree_model.specs.CaughtTrees.{IsCaughtTree}
use Rattle.tree_model.specs.GivenAnswers.{answers_in, AreInOrder}
use Rattle.tree_model.specs.AnswersTold.{answers_next}
use Rattle.tree_model.specs.Elements.{Element}
use Rattle.interleaving.specs.Machine.{free_steps, run, seen}
use Rattle.interleaving.specs.Scopes.{Shared, first_shared, scoped}
use Rattle.interleaving.specs.Readings.{opening_list, has_ended}
use Rattle.interleaving.specs.Follows.{lead, Follows}

-- what the list of a tree is run on, where so many answers were given
abbrev pub shared_of : ℕ → TreeState → Shared
shared_of answers t = record { world = t.world; queries = t.queries; answers = answers; halted = t.halted }

-- a halt leaves nothing to do
abbrev pub left_by : Option ℕ → List Element → List Element
left_by None xs = xs
left_by (Some k) xs = []

abbrev pub tree_list : TreeState → List Element
tree_list t = left_by t.halted (pending_list t.root)

-- as far as counts go, the run of the new list on the new world is seen like that of the old one from here on
abbrev pub IsSeenFrom : List Clause → ℕ → Shared → List Element → Shared → List Element → Type 0
IsSeenFrom clauses from v xs w ys = (n : ℕ) → from ≤ n → n ≤ greatest
    → seen (run (scoped clauses) n v (free_steps (scoped clauses) [] xs))
    ≡ seen (run (scoped clauses) n w (free_steps (scoped clauses) [] ys))

pub record IsInStep (job : Job) (budget : ℕ) (t : TreeState) : Type 0 where
  pub same_job : t.job ≡ job
  pub same_budget : t.budget ≡ budget
  pub sound : IsSoundTree t
  pub caught : IsCaughtTree t
  pub answers : ℕ
  -- the answers in the tree, from left to right
  pub ordered : AreInOrder t.root
  pub given : answers_in t.root ≡ answers
  pub from : ℕ
  pub early : from ≤ budget
  pub fewer : answers ≤ from
  pub alike : IsSeenFrom job.clauses from (first_shared job) (opening_list job) (shared_of answers t) (tree_list t)
  pub ahead : t.halted ≡ None → from ≤ lead (pending_list t.root)
  -- where nothing is pending, that is all
  pub finished : t.halted ≡ None → leftmost t ≡ None → lead (pending_list t.root) ≤ from
  pub stopped : (k : ℕ) → t.halted ≡ Some k → (lead (pending_list t.root) ≡ from) × (leftmost t ≡ None → ⊥)
  -- and the sequential run was not over before
  pub going : (n : ℕ) → n < from → has_ended job.clauses (first_shared job) (opening_list job) n ≡ false

-- what an event keeps that is no answer
pub record ListFollows (t new : TreeState) : Type 0 where
  pub world : new.world ≡ t.world
  pub queries : new.queries ≡ t.queries
  pub halted : new.halted ≡ t.halted
  pub follows : Follows t.job.clauses (pending_list t.root) (pending_list new.root)
  pub pending : (s : Spot) → leftmost t ≡ Some s → leftmost new ≡ None → ⊥

-- what an answer does
pub record AnswerMoves (t new : TreeState) (answers now : ℕ) : Type 0 where
  pub seen : IsSeenFrom t.job.clauses (suc (lead (pending_list t.root))) (shared_of answers t) (pending_list t.root) (shared_of now new)
      (tree_list new)
  pub ahead : new.halted ≡ None → (m : ℕ) → m ≤ greatest → m ≤ suc (lead (pending_list t.root)) → m ≤ lead (pending_list new.root)
  pub finished : new.halted ≡ None → leftmost new ≡ None → lead (pending_list new.root) ≤ suc (lead (pending_list t.root))
  pub stopped : (k : ℕ) → new.halted ≡ Some k → (lead (pending_list new.root) ≡ suc (lead (pending_list t.root)))
      × (leftmost new ≡ None → ⊥)
  pub going : has_ended t.job.clauses (shared_of answers t) (pending_list t.root) (lead (pending_list t.root)) ≡ false

-- events that change the list alone
abbrev pub IsOwn : Event → Type 0
IsOwn (Claim w a) = Unit {0}
IsOwn (Nodes w a k sizes) = Unit {0}
IsOwn (Empty w a k) = Unit {0}
IsOwn (Collected w a k) = Unit {0}
IsOwn (Lost w a) = Unit {0}
IsOwn (Suspend w a frozen) = Unit {0}
IsOwn (Resume w a) = Unit {0}
IsOwn (Prune w a) = Unit {0}
IsOwn (Answer w a frozen) = ⊥
IsOwn (Stop w) = Unit {0}

abbrev pub EventFollows : (Event → Type 0) → Type 0
EventFollows ok = (t : TreeState) (e : Event) → ok e → IsSoundTree t → IsCaughtTree t → IsSoundTree (after_event t e)
    → IsCaughtTree (after_event t e) → is_legal t e ≡ true → ListFollows t (after_event t e)

abbrev pub AnswersMove : Type 0
AnswersMove = (t : TreeState) (w : ℕ) (a : Place) (answers : ℕ) → IsSoundTree t → IsCaughtTree t
    → IsSoundTree (after_event t (Answer w a false)) → IsCaughtTree (after_event t (Answer w a false)) → is_legal t (Answer w a false)
    ≡ true → AnswerMoves t (after_event t (Answer w a false)) answers (answers + answers_next t)

abbrev pub PreservesCaught : (Event → Type 0) → Type 0
PreservesCaught ok = (t : TreeState) (e : Event) → ok e → IsSoundTree t → IsCaughtTree t → is_legal t e ≡ true
    → IsCaughtTree (after_event t e)

-- any event
abbrev pub IsAny : Event → Type 0
IsAny e = Unit {0}

abbrev pub IsPrune : Event → Type 0
IsPrune (Prune w a) = Unit {0}
IsPrune (Claim w a) = ⊥
IsPrune (Nodes w a k sizes) = ⊥
IsPrune (Empty w a k) = ⊥
IsPrune (Collected w a k) = ⊥
IsPrune (Lost w a) = ⊥
IsPrune (Suspend w a frozen) = ⊥
IsPrune (Resume w a) = ⊥
IsPrune (Answer w a frozen) = ⊥
IsPrune (Stop w) = ⊥

-- what an answer event does where it is no answer of a query and no halt: a world goal, a removal, or the end of a query
abbrev pub OthersMove : Type 0
OthersMove =
    (t : TreeState) (w : ℕ) (a : Place) (answers : ℕ) → IsSoundTree t → IsCaughtTree t → IsSoundTree (after_event t (Answer w a false))
    → IsCaughtTree (after_event t (Answer w a false)) → is_legal t (Answer w a false) ≡ true
    → ((s : Spot) (f : Continuation ℕ) → leftmost t ≡ Some s → s.entry ≡ PlainEntry f → without_marks f.items ≡ [] → ⊥)
    → ((s : Spot) (f : Continuation ℕ) (goal : Term) (scope : ℕ) (items : List (Item ℕ)) (k : ℕ) (after : World) → leftmost t ≡ Some s
    → s.entry ≡ PlainEntry f → without_marks f.items ≡ GoalItem goal scope ∷ items
    → HaltsBy t.job.clauses (outcome_of t.job.clauses goal f.next) f.next t.world k after → ⊥)
    → AnswerMoves t (after_event t (Answer w a false)) answers answers

-- events that change the tree's entries
abbrev pub IsChange : Event → Type 0
IsChange (Nodes w a k sizes) = Unit {0}
IsChange (Empty w a k) = Unit {0}
IsChange (Collected w a k) = Unit {0}
IsChange (Prune w a) = Unit {0}
IsChange (Answer w a frozen) = Unit {0}
IsChange (Claim w a) = ⊥
IsChange (Lost w a) = ⊥
IsChange (Suspend w a frozen) = ⊥
IsChange (Resume w a) = ⊥
IsChange (Stop w) = ⊥
