-- The private run of a branch, by what a region over its bare floor does.
use Rattle.std.specs.Prelude.{◌≡◌, ℕ, suc, ◌+◌, List, [], ◌∷◌, Option, Some, map, length}
use Rattle.au_term.specs.Term.{Term}
use Rattle.au_model.specs.Terms.Substitutions.{Substitution}
use Rattle.run_model.specs.Programs.Clauses.{Clause}
use Rattle.run_model.specs.Machine.Items.{Continuation, resolve_continuation}
use Rattle.run_model.specs.Machine.Entries.{Entry, PlainEntry, EndEntry}
use Rattle.tree_model.specs.Levels.{Level}
use Rattle.tree_model.specs.PrivateRuns.{own_part, private_run}
use Rattle.region_floor.specs.Deferred.{Deferred, joined_entry, all_deferred, deferring}
use Rattle.region_floor.specs.BareFloors.{bare_floor, AreOwn, TopGoal, goal_entries, bare_stack, true_rest, InfersPrivately}

-- at the start all is deferred, whatever was bound before
abbrev pub RunStarts : Type 0
RunStarts =
    (clauses : List Clause) (levels : List Level) (s : Substitution) (f : Continuation ℕ)
    → private_run clauses levels (PlainEntry (resolve_continuation s f)) 0
    ≡ Some (true_rest (all_deferred f) levels (PlainEntry (resolve_continuation s (deferring f)) ∷ []))

-- with a goal on top no free step is left
abbrev pub GoalsRest : Type 0
GoalsRest = (d : Deferred) (levels : List Level) (t : TopGoal) → true_rest d levels (goal_entries t) ≡ map (joined_entry d) (goal_entries t)

-- and an inference is the run's next one
abbrev pub RunGoesOn : Type 0
RunGoesOn =
    (clauses : List Clause) (d : Deferred) (levels : List Level) (e : Entry) (k : ℕ) (t : TopGoal) (stack : List Entry)
    → private_run clauses levels e k ≡ Some (true_rest d levels (goal_entries t)) → (i : InfersPrivately clauses d levels (goal_entries t) stack)
    → private_run clauses levels e (suc k) ≡ Some (true_rest d levels i.left)

-- what is on top of a bare stack is an own entry, or the end that is there where no own entry is left
pub record IsOwnTop (levels : List Level) (own : List Entry) (f : Continuation ℕ) (es : List Entry) : Type 0 where
  pub below : List Entry
  pub own_is : own ≡ PlainEntry f ∷ below
  pub entries : es ≡ bare_stack levels below

abbrev pub TopsAreOwn : Type 0
TopsAreOwn =
    (levels : List Level) (own : List Entry) (f : Continuation ℕ) (es : List Entry) → bare_stack levels own ≡ PlainEntry f ∷ es
    → IsOwnTop levels own f es

abbrev pub EndsAreBare : Type 0
EndsAreBare =
    (levels : List Level) (own : List Entry) (b : Option Term) (es : List Entry) → AreOwn (length levels) own
    → bare_stack levels own ≡ EndEntry b ∷ es → own ≡ []

abbrev pub NothingIsBare : Type 0
NothingIsBare = (levels : List Level) (own : List Entry) → bare_stack levels own ≡ [] → own ≡ []

-- own entries are those over the bare floor
abbrev pub OwnAreOver : Type 0
OwnAreOver = (levels : List Level) (own : List Entry) → own_part (bare_floor (length levels)) (bare_stack levels own) ≡ own

abbrev pub OwnAreCounted : Type 0
OwnAreCounted = (levels : List Level) (own : List Entry) → length (bare_stack levels own) ≡ length own + length levels
