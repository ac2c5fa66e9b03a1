-- Short names for the terms and jobs of worked rows, and what a run of one shows.
use Rattle.std.specs.Prelude.{ℕ, List, [], ◌∷◌, ◌++◌, codes, pos, unwrap_or}
use Rattle.au_term.specs.Term.{Term, VarTerm, IntTerm, AtomTerm, Compound, end, more}
use Rattle.au_model.specs.Terms.Forms.{unary, binary}
use Rattle.run_model.specs.Programs.Bodies.{body_of, called_goals}
use Rattle.run_model.specs.Programs.Clauses.{Clause}
use Rattle.run_model.specs.Programs.Databases.{no_procedures}
use Rattle.au_model.specs.Syntax.Operators.{initial_operators}
use Rattle.run_model.specs.Programs.Jobs.{Job, Query}
use Rattle.au_model.specs.Terms.Named.{NamedVariable}
use Rattle.au_model.specs.Terms.Unifier.{unifier}
use Rattle.run_model.specs.Goals.GoalOutcomes.{outcome_of}
use Rattle.run_model.specs.Machine.States.{step}
use Rattle.run_model.specs.Machine.Runs.{seq, text_of, ending_of, answers_of, inferences_of}
use Rattle.run_model.specs.declared.ending.RunEnding.{RunEnding}
use lib.Utf8.{encode}
use Rattle.std.specs.Fmt.{digits}

abbrev pub atom : List ℕ → Term
atom a = AtomTerm a

abbrev pub int : ℕ → Term
int n = IntTerm (pos n)

abbrev pub ternary : List ℕ → Term → Term → Term → Term
ternary f a b c = Compound f (more a (more b (more c end)))

abbrev pub X : Term
X = VarTerm 0

abbrev pub Y : Term
Y = VarTerm 1

abbrev pub Z : Term
Z = VarTerm 2

abbrev pub true_atom : Term
true_atom = atom (codes "true")

abbrev pub fail_atom : Term
fail_atom = atom (codes "fail")

abbrev pub cut : Term
cut = atom (codes "!")

abbrev pub equals : Term → Term → Term
equals a b = binary (codes "=") a b

abbrev pub conj : Term → Term → Term
conj a b = binary (codes ",") a b

abbrev pub either : Term → Term → Term
either a b = binary (codes ";") a b

abbrev pub then_goal : Term → Term → Term
then_goal a b = binary (codes "->") a b

abbrev pub catch : Term → Term → Term → Term
catch g c r = ternary (codes "catch") g c r

abbrev pub findall : Term → Term → Term → Term
findall t g l = ternary (codes "findall") t g l

abbrev pub call : Term → Term
call g = unary (codes "call") g

abbrev pub throw : Term → Term
throw b = unary (codes "throw") b

abbrev pub p : Term → Term
p t = unary (codes "p") t

abbrev pub fact : Term → Clause
fact t = record { head = t; body = true_atom }

abbrev pub clause : Term → Term → Clause
clause t b = record { head = t; body = unwrap_or (body_of b) b }

abbrev pub two_facts : List Clause
two_facts = fact (p (int 1)) ∷ fact (p (int 2)) ∷ []

abbrev pub named : List ℕ → ℕ → NamedVariable
named name number = record { name = name; number = number }

abbrev pub only_x : List NamedVariable
only_x = named (codes "X") 0 ∷ []

abbrev pub query : Term → List NamedVariable → Query
query body names = record { goals = unwrap_or (called_goals body) []; names = names }

abbrev pub job : List Clause → List Query → Job
job cs qs = record { clauses = cs; database = no_procedures; operators = initial_operators; queries = qs }

-- a job with one query
abbrev pub asked : List Clause → Term → List NamedVariable → Job
asked cs body names = job cs (query body names ∷ [])

-- lines of text, each with its line feed
abbrev pub lines : List (List ℕ) → List ℕ
lines [] = []
lines (l ∷ ls) = l ++ 10 ∷ lines ls

pub record Shown : Type 0 where
  pub text : List ℕ
  pub ending : RunEnding
  pub answers : ℕ
  pub inferences : ℕ

-- what a run within a budget shows
unfoldable pub shown : Job → ℕ → Shown
unfolding seq step outcome_of unifier encode digits
shown job budget = record { text = text_of job budget; ending = ending_of job budget; answers = answers_of job budget; inferences = inferences_of job budget }
