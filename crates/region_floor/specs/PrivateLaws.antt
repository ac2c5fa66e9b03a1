-- What takes the place of a goal in a region is one inference of the private run.
use Rattle.std.specs.Prelude.{◌≡◌, List, None, length}
use Rattle.au_model.specs.Terms.Each.{Each}
use Rattle.run_model.specs.Programs.Clauses.{Clause}
use Rattle.run_model.specs.Goals.Outcomes.{Solution, Solutions, Ball, HaltNumber, ControlForm, Outcome, Replies, Controls, AskWorld}
use Rattle.run_model.specs.Goals.GoalOutcomes.{outcome_of}
use Rattle.run_model.specs.Machine.Heights.{after_reply, after_control}
use Rattle.tree_model.specs.Levels.{Level}
use Rattle.tree_model.specs.Gates.{control_gate}
use Rattle.region_floor.specs.Deferred.{Deferred}
use Rattle.region_floor.specs.BareFloors.{AreOwn, TopGoal, goal_entries, bare_stack, InfersPrivately}

-- no clause is removed
abbrev pub RemovesNothing : Solution → Type 0
RemovesNothing s = s.removes ≡ None

abbrev pub KeepsClauses : Outcome → Type 0
KeepsClauses (Replies (Solutions ss)) = Each RemovesNothing ss
KeepsClauses (Replies (Ball b)) = Unit {0}
KeepsClauses (Replies (HaltNumber k)) = Unit {0}
KeepsClauses (Controls form) = Unit {0}
KeepsClauses (AskWorld goal) = Unit {0}

-- a goal on top of own entries has this outcome
pub record HasOutcome (clauses : List Clause) (levels : List Level) (t : TopGoal) (o : Outcome) : Type 0 where
  pub are_own : AreOwn (length levels) (goal_entries t)
  pub outcome : outcome_of clauses t.goal t.after.next ≡ o

-- a control construct, but for a cut to the floor
abbrev pub ControlsArePrivate : Type 0
ControlsArePrivate =
    (clauses : List Clause) (d : Deferred) (levels : List Level) (t : TopGoal) (form : ControlForm) → HasOutcome clauses levels t (Controls form)
    → control_gate levels form t.height ≡ None
    → InfersPrivately clauses d levels (goal_entries t) (after_control form t.height t.after (bare_stack levels t.below))

-- solutions
abbrev pub SolutionsArePrivate : Type 0
SolutionsArePrivate =
    (clauses : List Clause) (d : Deferred) (levels : List Level) (t : TopGoal) (ss : List Solution)
    → HasOutcome clauses levels t (Replies (Solutions ss))
    → InfersPrivately clauses d levels (goal_entries t) (after_reply (Solutions ss) t.after (bare_stack levels t.below))
