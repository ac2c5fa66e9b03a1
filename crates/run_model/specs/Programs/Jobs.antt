-- What a text loads to.
use Rattle.std.specs.Prelude.{ℕ, suc, max, List, [], ◌∷◌, map}
use Rattle.au_term.specs.Term.{Term, VarTerm, var_bound}
use Rattle.run_model.specs.Programs.Clauses.{Clause}
use Rattle.run_model.specs.Programs.Databases.{Database}
use Rattle.au_model.specs.Syntax.Operators.{OperatorTable}
use Rattle.au_model.specs.Terms.Named.{NamedVariable, NamedTerm}

-- a query's goals, and its variables that have names
pub record Query : Type 0 where
  pub goals : List Term
  pub names : List NamedVariable

-- the static clauses in the order of the text, the dynamic procedures and operators to begin with, and the queries
pub record Job : Type 0 where
  pub clauses : List Clause
  pub database : Database
  pub operators : OperatorTable
  pub queries : List Query

-- each named variable stands for itself to begin with
abbrev pub own_terms : List NamedVariable → List NamedTerm
own_terms vs = map (λ v. record { name = v.name; term = VarTerm v.number }) vs

abbrev pub goals_bound : List Term → ℕ
goals_bound [] = 0
goals_bound (g ∷ gs) = max (var_bound g) (goals_bound gs)

abbrev pub names_bound : List NamedVariable → ℕ
names_bound [] = 0
names_bound (v ∷ vs) = max (suc v.number) (names_bound vs)

-- the least number above all variables of a query
abbrev pub query_bound : Query → ℕ
query_bound q = max (goals_bound q.goals) (names_bound q.names)
