-- The world that the goals of a run share, and the rows of goals that look at it or change it.
use Rattle.std.specs.Prelude.{ℕ, Bool, List, [], ◌∷◌, ◌++◌, Option, Some, None}
use Rattle.au_term.specs.Term.{Term, Terms}
use Rattle.au_model.specs.Terms.ErrorTerms.{error_term}
use Rattle.au_model.specs.Syntax.Operators.{OperatorTable}
use Rattle.run_model.specs.Programs.Databases.{Database, no_procedures}
use Rattle.run_model.specs.Programs.Jobs.{Job}
use Rattle.run_model.specs.Goals.Outcomes.{Reply, Solutions, Ball}

-- the bytes written, the dynamic procedures, and the operators
pub record World : Type 0 where
  pub written : List ℕ
  pub database : Database
  pub operators : OperatorTable

-- a run begins with nothing written, and with the job's dynamic procedures and operators
abbrev pub first_world : Job → World
first_world job = record { written = []; database = job.database; operators = job.operators }

-- a world without dynamic procedures
abbrev pub plain_world : OperatorTable → List ℕ → World
plain_world operators written = record { written = written; database = no_procedures; operators = operators }

abbrev pub writes : List ℕ → World → World
writes bytes w = record w { written = w.written ++ bytes }

-- which procedures, by name and number of arguments, no goal changes
abbrev pub Statics : Type 0
Statics = List ℕ → ℕ → Bool

-- what goals of a name and number of arguments do: by the static procedures, their arguments, the next number and the world
pub record WorldConstruct : Type 0 where
  pub name : List ℕ
  pub arity : ℕ
  pub effect : Statics → Terms → ℕ → World → World × Reply

abbrev pub world_goal : List ℕ → ℕ → (Statics → Terms → ℕ → World → World × Reply) → WorldConstruct
world_goal name arity effect = record { name = name; arity = arity; effect = effect }

-- it holds, once
abbrev pub holds_once : Reply
holds_once = Solutions (record { equations = []; goals = []; removes = None; variables = 0 } ∷ [])

-- the error of a goal with its name and number of arguments, which leaves the world as it is; or else what it comes to
abbrev pub unless_raised : List ℕ → ℕ → World → Option Term → World × Reply → World × Reply
unless_raised name arity w (Some e) r = (w, Ball (error_term e name arity))
unless_raised name arity w None r = r
