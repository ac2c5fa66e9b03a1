-- What is on top of a region's own entries tells the gate of what they stand for, or what is to be loaded next.
use Rattle.std.specs.Prelude.{◌≡◌, ℕ, suc, ◌+◌, ◌<◌, true, List, [], ◌∷◌, ◌++◌, Some, None, map, drop, length}
use Rattle.au_term.specs.Term.{Term}
use Rattle.run_model.specs.Programs.Clauses.{Clause}
use Rattle.run_model.specs.Goals.Outcomes.{HaltNumber, CutToScope, Replies, Controls, AskWorld}
use Rattle.run_model.specs.Goals.GoalOutcomes.{outcome_of}
use Rattle.run_model.specs.Machine.Items.{Item, CatchMark, CollectMark, RemovalItem, Continuation, goals_at, before}
use Rattle.run_model.specs.Machine.Entries.{Entry, PlainEntry}
use Rattle.tree_model.specs.Nodes.{CutGate, WorldGate}
use Rattle.tree_model.specs.Levels.{Level}
use Rattle.tree_model.specs.Floors.{node_of}
use Rattle.tree_model.specs.Gates.{gate_on}
use Rattle.tree_model.specs.Legality.{gives_result}
use Rattle.tree_model.specs.PrivateRuns.{one_more}
use Rattle.region_floor.specs.Deferred.{Deferred, deferred_now, joined_entry}
use Rattle.region_floor.specs.BareFloors.{AreOwn, TopGoal, goal_entries, bare_stack, true_stack, true_rest, RestsPrivately}

-- a goal that asks the world or halts, and a cut to the floor
abbrev pub WorldGoalsAreGates : Type 0
WorldGoalsAreGates =
    (clauses : List Clause) (d : Deferred) (levels : List Level) (t : TopGoal) (goal : Term) → outcome_of clauses t.goal t.after.next ≡ AskWorld goal
    → gate_on clauses levels (true_stack d levels (goal_entries t)) ≡ Some WorldGate

abbrev pub HaltsAreGates : Type 0
HaltsAreGates =
    (clauses : List Clause) (d : Deferred) (levels : List Level) (t : TopGoal) (k : ℕ)
    → outcome_of clauses t.goal t.after.next ≡ Replies (HaltNumber k)
    → gate_on clauses levels (true_stack d levels (goal_entries t)) ≡ Some WorldGate

abbrev pub CutsAreGates : Type 0
CutsAreGates =
    (clauses : List Clause) (d : Deferred) (levels : List Level) (t : TopGoal) → outcome_of clauses t.goal t.after.next ≡ Controls CutToScope
    → t.height < length levels
    → gate_on clauses levels (true_stack d levels (goal_entries t)) ≡ Some (CutGate (node_of levels t.height))

-- what stands for what is deferred from a number on, on top of own entries
abbrev pub deferred_entries : ℕ → Continuation ℕ → List Entry → List Entry
deferred_entries k f es = PlainEntry (before (RemovalItem k ∷ []) f) ∷ es

-- these items are deferred from there on
pub record HasDeferred (d : Deferred) (levels : List Level) (k : ℕ) (f : Continuation ℕ) (es : List Entry) (items : List (Item ℕ)) : Type 0 where
  pub are_own : AreOwn (length levels) (deferred_entries k f es)
  pub deferred : drop k (deferred_now d f) ≡ items

-- nothing: an answer
abbrev pub AnswersAreGates : Type 0
AnswersAreGates =
    (clauses : List Clause) (d : Deferred) (levels : List Level) (k : ℕ) (f : Continuation ℕ) (es : List Entry) → HasDeferred d levels k f es []
    → gate_on clauses levels (true_stack d levels (deferred_entries k f es)) ≡ Some WorldGate

-- a removal
abbrev pub RemovalsAreGates : Type 0
RemovalsAreGates =
    (clauses : List Clause) (d : Deferred) (levels : List Level) (k number : ℕ) (f : Continuation ℕ) (es : List Entry) (items : List (Item ℕ))
    → HasDeferred d levels k f es (RemovalItem number ∷ items)
    → gate_on clauses levels (true_stack d levels (deferred_entries k f es)) ≡ Some WorldGate

-- goals in one scope, which are loaded
abbrev pub GoalsLoad : Type 0
GoalsLoad =
    (d : Deferred) (levels : List Level) (k h : ℕ) (goals : List Term) (f : Continuation ℕ) (es : List Entry) (items : List (Item ℕ))
    → HasDeferred d levels k f es (goals_at h goals ++ items)
    → RestsPrivately d levels (deferred_entries k f es)
    (bare_stack levels (PlainEntry (before (goals_at h goals ++ RemovalItem (k + length goals) ∷ []) f) ∷ es))

-- the end of what a catch guards, which is skipped
abbrev pub CatchMarksSkip : Type 0
CatchMarksSkip =
    (d : Deferred) (levels : List Level) (k h : ℕ) (f : Continuation ℕ) (es : List Entry) (items : List (Item ℕ))
    → HasDeferred d levels k f es (CatchMark h ∷ items)
    → RestsPrivately d levels (deferred_entries k f es) (bare_stack levels (deferred_entries (suc k) f es))

-- a result for a findall of the floor: nothing more is inferred, and it is given where nothing else is left
pub record GivesResult (clauses : List Clause) (d : Deferred) (levels : List Level) (k : ℕ) (f : Continuation ℕ) (es : List Entry) : Type 0 where
  pub rest : true_rest d levels (deferred_entries k f es) ≡ map (joined_entry d) (deferred_entries k f es)
  pub last : one_more clauses levels (map (joined_entry d) (deferred_entries k f es)) ≡ None
  pub gives : es ≡ [] → gives_result (true_rest d levels (deferred_entries k f es)) ≡ true

abbrev pub ResultsAreGiven : Type 0
ResultsAreGiven =
    (clauses : List Clause) (d : Deferred) (levels : List Level) (k h : ℕ) (result : Term) (f : Continuation ℕ) (es : List Entry) (items : List (Item ℕ))
    → HasDeferred d levels k f es (CollectMark result h ∷ items) → h < length levels → GivesResult clauses d levels k f es
