-- A region over a bare floor, from the start of a private run to its stop.
use Rattle.std.specs.Prelude.{◌≡◌, ℕ, suc, ◌+◌, ◌-◌, ◌<◌, true, List, [], ◌∷◌, ◌++◌, Option, Some, None, map, drop, length}
use Rattle.au_term.specs.Term.{Term}
use Rattle.au_model.specs.Terms.Copies.{copied}
use Rattle.au_model.specs.Terms.Each.{Each}
use Rattle.au_model.specs.Terms.Substitutions.{Substitution}
use Rattle.run_model.specs.Programs.Clauses.{Clause}
use Rattle.run_model.specs.Goals.Outcomes.{Solution, Solutions, Ball, HaltNumber, ControlForm, CutToScope, Outcome, Replies, Controls, AskWorld}
use Rattle.run_model.specs.Goals.GoalOutcomes.{outcome_of}
use Rattle.run_model.specs.Machine.Items.{Item, CatchMark, CollectMark, RemovalItem, Continuation, goals_at, before, resolve_continuation}
use Rattle.run_model.specs.Machine.Entries.{Entry, PlainEntry, EndEntry}
use Rattle.run_model.specs.Machine.FreeSteps.{take_free_steps}
use Rattle.run_model.specs.Machine.Heights.{after_reply, after_control}
use Rattle.tree_model.specs.Nodes.{Gate, CutGate, BallGate, WorldGate}
use Rattle.tree_model.specs.Levels.{Level}
use Rattle.tree_model.specs.Floors.{renamed_continuation, height_of, node_of, with_heights}
use Rattle.tree_model.specs.Gates.{control_gate, gate_on}
use Rattle.tree_model.specs.Legality.{gives_result}
use Rattle.tree_model.specs.PrivateRuns.{private_run}
use Rattle.region_floor.specs.Deferred.{Deferred, deferred_now, joined_entry, all_deferred, deferring}
use Rattle.region_floor.specs.BareFloors.{AreOwn, IsOuterMark, TopGoal, goal_entries, bare_stack, true_stack, true_rest}
use Rattle.region_floor.specs.GateLaws.{deferred_entries}

-- the private run of an entry, and what its region defers
pub record RegionRun : Type 0 where
  pub clauses : List Clause
  pub levels : List Level
  pub entry : Entry
  pub deferred : Deferred

-- the marks of what is deferred are those of the floor
abbrev pub AreOuter : RegionRun → Type 0
AreOuter r = Each (IsOuterMark (length r.levels)) r.deferred.items

abbrev pub run_after : RegionRun → ℕ → Option (List Entry)
run_after r k = private_run r.clauses r.levels r.entry k

-- after so many inferences the run is where a region's stack says
pub record StandsAfter (r : RegionRun) (k : ℕ) (stack : List Entry) : Type 0 where
  pub own : List Entry
  pub are_own : AreOwn (length r.levels) own
  pub entries : stack ≡ bare_stack r.levels own
  pub run : run_after r k ≡ Some (true_rest r.deferred r.levels own)

-- the run has come to own entries at rest, and this is the gate of the next item
pub record StandsAtGate (r : RegionRun) (k : ℕ) (stack : List Entry) (gate : Gate) : Type 0 where
  pub own : List Entry
  pub are_own : AreOwn (length r.levels) own
  pub entries : stack ≡ bare_stack r.levels own
  pub run : run_after r k ≡ Some (map (joined_entry r.deferred) own)
  pub gate_is : gate_on r.clauses r.levels (true_stack r.deferred r.levels own) ≡ Some gate

-- the run has come to a result for a findall of the floor: it has no next inference, and gives the result once nothing
-- else is left
pub record ComesToResult (r : RegionRun) (k : ℕ) (stack : List Entry) : Type 0 where
  pub own : List Entry
  pub are_own : AreOwn (length r.levels) own
  pub entries : stack ≡ bare_stack r.levels own
  pub run : run_after r k ≡ Some (map (joined_entry r.deferred) own)
  pub last : run_after r (suc k) ≡ None
  pub gives : length own ≡ 1 → gives_result (map (joined_entry r.deferred) own) ≡ true

-- the run of what is left to do after bindings, all of it deferred
abbrev pub run_from : List Clause → List Level → Substitution → Continuation ℕ → RegionRun
run_from clauses levels s f =
    record { clauses = clauses; levels = levels; entry = PlainEntry (resolve_continuation s f); deferred = all_deferred f }

abbrev pub RegionStarts : Type 0
RegionStarts =
    (clauses : List Clause) (levels : List Level) (s : Substitution) (f : Continuation ℕ)
    → StandsAfter (run_from clauses levels s f) 0 (bare_stack levels (PlainEntry (resolve_continuation s (deferring f)) ∷ []))

-- what is left to do, by heights over some levels
abbrev pub by_heights : List Level → Continuation ℕ → Continuation ℕ
by_heights levels f = renamed_continuation (height_of levels) (λ s. height_of levels s - 1) f

-- an alternative of the tree that reads as this after bindings: heights commute with bindings, and all marks are of the floor
abbrev pub EntriesByHeights : Type 0
EntriesByHeights =
    (levels : List Level) (s : Substitution) (f : Continuation ℕ)
    → with_heights levels (PlainEntry (resolve_continuation s f)) ≡ PlainEntry (resolve_continuation s (by_heights levels f))

abbrev pub MarksAreOuter : Type 0
MarksAreOuter =
    (clauses : List Clause) (v : Level) (up : List Level) (s : Substitution) (f : Continuation ℕ)
    → AreOuter (run_from clauses (v ∷ up) s (by_heights (v ∷ up) f))

abbrev pub FreeStepsStand : Type 0
FreeStepsStand = (r : RegionRun) (k : ℕ) (stack : List Entry) → StandsAfter r k stack → StandsAfter r k (take_free_steps stack)

-- a goal is on top, with this outcome
pub record TakesGoal (r : RegionRun) (k : ℕ) (t : TopGoal) (o : Outcome) : Type 0 where
  pub stands : StandsAfter r k (goal_entries t)
  pub outcome : outcome_of r.clauses t.goal t.after.next ≡ o

abbrev pub ControlsStand : Type 0
ControlsStand =
    (r : RegionRun) (k : ℕ) (t : TopGoal) (form : ControlForm) → TakesGoal r k t (Controls form) → control_gate r.levels form t.height ≡ None
    → StandsAfter r (suc k) (after_control form t.height t.after t.below)

abbrev pub SolutionsStand : Type 0
SolutionsStand =
    (r : RegionRun) (k : ℕ) (t : TopGoal) (ss : List Solution) → TakesGoal r k t (Replies (Solutions ss))
    → StandsAfter r (suc k) (after_reply (Solutions ss) t.after t.below)

abbrev pub BallsStand : Type 0
BallsStand =
    (r : RegionRun) (k : ℕ) (t : TopGoal) (b : Term) → AreOuter r → TakesGoal r k t (Replies (Ball b)) → (f : Continuation ℕ) (es : List Entry)
    → after_reply (Ball b) t.after t.below ≡ PlainEntry f ∷ es → StandsAfter r (suc k) (PlainEntry f ∷ es)

-- a ball that the goal on top throws and no own entry takes: it is left as a copy, and is a gate
pub record FallsAt (r : RegionRun) (k : ℕ) (t : TopGoal) (b : Term) (left : Option Term) : Type 0 where
  pub outcome : outcome_of r.clauses t.goal t.after.next ≡ Replies (Ball b)
  pub ball : left ≡ Some (copied b 0)
  pub scope : ℕ
  pub stops : StandsAtGate r k (goal_entries t) (BallGate scope)

abbrev pub BallsStop : Type 0
BallsStop =
    (r : RegionRun) (k : ℕ) (t : TopGoal) (b : Term) → AreOuter r → TakesGoal r k t (Replies (Ball b)) → (left : Option Term)
    → after_reply (Ball b) t.after t.below ≡ EndEntry left ∷ [] → FallsAt r k t b left

abbrev pub WorldGoalsStop : Type 0
WorldGoalsStop = (r : RegionRun) (k : ℕ) (t : TopGoal) (goal : Term) → TakesGoal r k t (AskWorld goal) → StandsAtGate r k (goal_entries t) WorldGate

abbrev pub HaltsStop : Type 0
HaltsStop = (r : RegionRun) (k : ℕ) (t : TopGoal) (n : ℕ) → TakesGoal r k t (Replies (HaltNumber n)) → StandsAtGate r k (goal_entries t) WorldGate

abbrev pub CutsStop : Type 0
CutsStop =
    (r : RegionRun) (k : ℕ) (t : TopGoal) → TakesGoal r k t (Controls CutToScope) → t.height < length r.levels
    → StandsAtGate r k (goal_entries t) (CutGate (node_of r.levels t.height))

-- what is deferred from a number on is on top
pub record TakesDeferred (r : RegionRun) (k n : ℕ) (f : Continuation ℕ) (es : List Entry) (items : List (Item ℕ)) : Type 0 where
  pub stands : StandsAfter r k (deferred_entries n f es)
  pub deferred : drop n (deferred_now r.deferred f) ≡ items

abbrev pub GoalsLoaded : Type 0
GoalsLoaded =
    (r : RegionRun) (k n h : ℕ) (goals : List Term) (f : Continuation ℕ) (es : List Entry) (items : List (Item ℕ))
    → TakesDeferred r k n f es (goals_at h goals ++ items)
    → StandsAfter r k (PlainEntry (before (goals_at h goals ++ RemovalItem (n + length goals) ∷ []) f) ∷ es)

abbrev pub MarksSkipped : Type 0
MarksSkipped =
    (r : RegionRun) (k n h : ℕ) (f : Continuation ℕ) (es : List Entry) (items : List (Item ℕ)) → TakesDeferred r k n f es (CatchMark h ∷ items)
    → StandsAfter r k (deferred_entries (suc n) f es)

abbrev pub AnswersStop : Type 0
AnswersStop =
    (r : RegionRun) (k n : ℕ) (f : Continuation ℕ) (es : List Entry) → TakesDeferred r k n f es [] → StandsAtGate r k (deferred_entries n f es) WorldGate

abbrev pub RemovalsStop : Type 0
RemovalsStop =
    (r : RegionRun) (k n number : ℕ) (f : Continuation ℕ) (es : List Entry) (items : List (Item ℕ))
    → TakesDeferred r k n f es (RemovalItem number ∷ items) → StandsAtGate r k (deferred_entries n f es) WorldGate

abbrev pub ResultsStop : Type 0
ResultsStop =
    (r : RegionRun) (k n h : ℕ) (result : Term) (f : Continuation ℕ) (es : List Entry) (items : List (Item ℕ))
    → TakesDeferred r k n f es (CollectMark result h ∷ items) → h < length r.levels → ComesToResult r k (deferred_entries n f es)

-- no item on top: a region that keeps what stands for deferred items never comes to this
abbrev pub NothingStops : Type 0
NothingStops =
    (r : RegionRun) (k : ℕ) (f : Continuation ℕ) (es : List Entry) → f.items ≡ [] → StandsAfter r k (PlainEntry f ∷ es)
    → StandsAtGate r k (PlainEntry f ∷ es) WorldGate

-- an end on top, or an empty stack: nothing is left of the run
abbrev pub EndsAreEmpty : Type 0
EndsAreEmpty = (r : RegionRun) (k : ℕ) (b : Option Term) (es : List Entry) → StandsAfter r k (EndEntry b ∷ es) → run_after r k ≡ Some []

abbrev pub NothingIsEmpty : Type 0
NothingIsEmpty = (r : RegionRun) (k : ℕ) → StandsAfter r k [] → run_after r k ≡ Some []

-- and no end with a ball comes to be on top
abbrev pub NoBallIsLeft : Type 0
NoBallIsLeft = (r : RegionRun) (k : ℕ) (b : Term) (es : List Entry) → StandsAfter r k (EndEntry (Some b) ∷ es) → ⊥
