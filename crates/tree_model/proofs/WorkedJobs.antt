-- Jobs of worked rows, and what a history of one shows.
use Rattle.std.specs.Prelude.{ℕ, Bool, List, [], ◌∷◌, ◌++◌, unwrap_or, Option}
use Rattle.au_term.specs.Term.{Term}
use Rattle.run_model.specs.Programs.Bodies.{body_of, called_goals}
use Rattle.run_model.specs.Programs.Clauses.{Clause}
use Rattle.run_model.specs.Programs.Databases.{no_procedures}
use Rattle.au_model.specs.Syntax.Operators.{initial_operators}
use Rattle.run_model.specs.Programs.Jobs.{Job, Query}
use Rattle.au_model.specs.Terms.Named.{NamedVariable}
use Rattle.au_model.specs.Terms.Unifier.{unifier}
use Rattle.run_model.specs.Goals.GoalOutcomes.{outcome_of}
use Rattle.run_model.specs.declared.ending.RunEnding.{RunEnding}
use lib.Utf8.{encode}
use Rattle.std.specs.Fmt.{digits}
use Rattle.tree_model.specs.Levels.{Place}
use Rattle.tree_model.specs.PrivateRuns.{private_run}
use Rattle.tree_model.specs.Events.{Event}
use Rattle.tree_model.specs.TreeStates.{TreeState, opening_tree, ended, counts}
use Rattle.tree_model.specs.Legality.{gate_of, run_of, is_legal}
use Rattle.tree_model.specs.Effects.{after_event}
use Rattle.tree_model.specs.Histories.{are_legal, tree_after}

abbrev pub clause : Term → Term → Clause
clause t b = record { head = t; body = unwrap_or (body_of b) b }

abbrev pub named : List ℕ → ℕ → NamedVariable
named name number = record { name = name; number = number }

abbrev pub query : Term → List NamedVariable → Query
query body names = record { goals = unwrap_or (called_goals body) []; names = names }

abbrev pub job : List Clause → List Query → Job
job cs qs = record { clauses = cs; database = no_procedures; operators = initial_operators; queries = qs }

-- lines of text, each with its line feed
abbrev pub lines : List (List ℕ) → List ℕ
lines [] = []
lines (l ∷ ls) = l ++ 10 ∷ lines ls

abbrev pub at_place : ℕ → ℕ → Place
at_place n i = record { node = n; index = i }

pub record Replayed : Type 0 where
  pub legal : Bool
  pub text : List ℕ
  pub end : Option RunEnding
  pub answers : ℕ
  pub inferences : ℕ

abbrev pub shown_of : Bool → TreeState → Replayed
shown_of legal t = record { legal = legal; text = t.world.written; end = ended t; answers = (counts t).0; inferences = (counts t).1 }

-- what the tree after a history shows
unfoldable pub replayed : Job → ℕ → ℕ → List Event → Replayed
unfolding after_event is_legal gate_of run_of private_run outcome_of unifier encode digits
replayed j budget window es =
    shown_of (are_legal (opening_tree j budget window) es) (tree_after j budget window es)

-- which of these events may happen in each tree of a history
abbrev pub legal_here : TreeState → List Event → List Bool
legal_here t [] = []
legal_here t (e ∷ es) = is_legal t e ∷ legal_here t es

abbrev all_legal : TreeState → List Event → List (List Event) → List Bool
all_legal t es [] = []
all_legal t [] (tried ∷ more_tried) = legal_here t tried
all_legal t (e ∷ es) (tried ∷ more_tried) = legal_here t tried ++ all_legal (after_event t e) es more_tried

unfoldable pub shown_legal : Job → ℕ → ℕ → List Event → List (List Event) → List Bool
unfolding after_event is_legal gate_of run_of private_run outcome_of unifier encode digits
shown_legal j budget window es tried = all_legal (opening_tree j budget window) es tried
