-- What a goal can come to (ISO/IEC 13211-1, 7.7 and 7.8), with scopes named by how they stand to the current entry:
-- the scope that the goal carries; the entry's own scope, which a cut in a called body cuts to; the scope of a test,
-- just above the other branch.
use Rattle.std.specs.Prelude.{ℕ, List, [], ◌∷◌, map, Option, None}
use Rattle.au_term.specs.Term.{Term}
use Rattle.au_model.specs.Terms.Unifier.{Equations}
use Rattle.run_model.specs.Programs.Clauses.{Clause, renamed_head, renamed_goals, clause_takes}

-- one way for a goal to hold: where these equations unify, these goals are left, in the entry's own scope, and then the
-- removal of a clause, where one is named by its number; and how many new variables it takes
pub record Solution : Type 0 where
  pub equations : Equations
  pub goals : List Term
  pub removes : Option ℕ
  pub variables : ℕ

-- what a goal without control comes to: its solutions, a ball, or the end of the run
pub data Reply : Type 0 where
  Solutions : List Solution → Reply
  Ball : Term → Reply
  HaltNumber : ℕ → Reply

-- how a control construct goes on
pub data ControlForm : Type 0 where
  -- these goals, in the entry's own scope
  GoesOnWith : List Term → ControlForm
  -- one list of goals or the other, both in the scope that the goal carries
  EitherOf : List Term → List Term → ControlForm
  -- a condition in a scope of its own, and a cut to the entry's own scope; then the second list, or else the third,
  -- both in the scope that the goal carries
  TestOf : List Term → List Term → List Term → ControlForm
  -- a cut to the scope that the goal carries
  CutToScope : ControlForm
  -- a goal, what it catches, and the recovery
  CatchOf : Term → Term → Term → ControlForm
  -- what is collected, for each solution of a goal, and what the list is unified with
  FindallOf : Term → Term → Term → ControlForm

pub data Outcome : Type 0 where
  Replies : Reply → Outcome
  Controls : ControlForm → Outcome
  -- a goal that looks at the world or changes it
  AskWorld : Term → Outcome

-- a clause tried for a goal, its variables renamed to the next numbers
abbrev pub clause_solution : Term → ℕ → Clause → Solution
clause_solution goal next c =
    record { equations = (goal, renamed_head c next) ∷ []; goals = renamed_goals c next; removes = None; variables = clause_takes c }

-- the alternatives of a goal: every clause is tried, in the order of the text (7.7.10)
abbrev pub alternatives_of : List Clause → Term → ℕ → List Solution
alternatives_of clauses goal next = map (clause_solution goal next) clauses
