-- Where a ball lands over a bare floor, and over the true one.
use Rattle.std.specs.Prelude.{◌≡◌, ◌⊎◌, ℕ, List, [], ◌∷◌, Option, Some, length}
use Rattle.au_term.specs.Term.{Term}
use Rattle.au_model.specs.Terms.Copies.{copied}
use Rattle.au_model.specs.Terms.Each.{Each}
use Rattle.run_model.specs.Programs.Clauses.{Clause}
use Rattle.run_model.specs.Goals.Outcomes.{Ball, Replies}
use Rattle.run_model.specs.Machine.Items.{Continuation}
use Rattle.run_model.specs.Machine.Entries.{Entry, PlainEntry, EndEntry}
use Rattle.run_model.specs.Machine.Balls.{unwound}
use Rattle.run_model.specs.Machine.Heights.{after_reply}
use Rattle.tree_model.specs.Nodes.{BallGate}
use Rattle.tree_model.specs.Levels.{Level}
use Rattle.tree_model.specs.Gates.{ball_scope, gate_on}
use Rattle.region_floor.specs.Deferred.{Deferred, joined_continuation}
use Rattle.region_floor.specs.BareFloors.{IsOuterMark, TopGoal, goal_entries, bare_stack, true_stack, InfersPrivately}
use Rattle.region_floor.specs.PrivateLaws.{HasOutcome}

-- a goal on top of own entries throws this, and the marks of what is deferred are those of the floor
pub record Throws (clauses : List Clause) (d : Deferred) (levels : List Level) (t : TopGoal) (b : Term) : Type 0 where
  pub outcome : HasOutcome clauses levels t (Replies (Ball b))
  pub outer : Each (IsOuterMark (length levels)) d.items

-- where a recovery goes on, the ball is one inference
abbrev pub BallsArePrivate : Type 0
BallsArePrivate =
    (clauses : List Clause) (d : Deferred) (levels : List Level) (t : TopGoal) (b : Term) → Throws clauses d levels t b
    → (r : Continuation ℕ) (es : List Entry) → after_reply (Ball b) t.after (bare_stack levels t.below) ≡ PlainEntry r ∷ es
    → InfersPrivately clauses d levels (goal_entries t) (PlainEntry r ∷ es)

-- a ball that no own entry takes is a gate; it is left as a copy
pub record IsBallGate (clauses : List Clause) (d : Deferred) (levels : List Level) (t : TopGoal) (b : Term) (c : Option Term) : Type 0 where
  pub ball : c ≡ Some (copied b 0)
  pub gate : gate_on clauses levels (true_stack d levels (goal_entries t))
      ≡ Some (BallGate (ball_scope levels (after_reply (Ball b) (joined_continuation d t.after) (true_stack d levels t.below))))

abbrev pub BallsAreGates : Type 0
BallsAreGates =
    (clauses : List Clause) (d : Deferred) (levels : List Level) (t : TopGoal) (b : Term) → Throws clauses d levels t b
    → (c : Option Term) → after_reply (Ball b) t.after (bare_stack levels t.below) ≡ EndEntry c ∷ [] → IsBallGate clauses d levels t b c

-- over any entries, a recovery goes on or the ball alone is left
abbrev pub BallsLand : Type 0
BallsLand =
    (b : Term) (mark : Option ℕ) (es : List Entry) → ((f : Continuation ℕ) × (ds : List Entry) × (unwound b mark es ≡ PlainEntry f ∷ ds))
    ⊎ (unwound b mark es ≡ EndEntry (Some (copied b 0)) ∷ [])
