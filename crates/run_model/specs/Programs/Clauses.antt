-- Clauses (ISO/IEC 13211-1, 7.4 and 7.6.1), renamed where they are tried (7.7.10).
use Rattle.std.specs.Prelude.{ℕ, Bool, ◌&&◌, ◌==◌, List, [], map, length}
use Rattle.std.specs.List.{list_any}
use Rattle.au_term.specs.Term.{Term, argument_count}
use Rattle.au_model.specs.Terms.Substitutions.{apply}
use Rattle.au_model.specs.Terms.Copies.{seen_in, renamed}
use Rattle.au_model.specs.Terms.Forms.{same_name, name_of}
use Rattle.run_model.specs.Programs.Bodies.{clause_goals_of}

-- the body is kept as it was made of the term that was read, with its conjunctions
pub record Clause : Type 0 where
  pub head : Term
  pub body : Term

-- the variables of the head and then of the body, in order of first occurrence
abbrev pub clause_variables : Clause → List ℕ
clause_variables c = seen_in c.body (seen_in c.head [])

-- what its variables become where it is tried: the next numbers
abbrev pub clause_renaming : Clause → ℕ → ℕ → Term
clause_renaming c next = renamed (clause_variables c) next

abbrev pub renamed_head : Clause → ℕ → Term
renamed_head c next = apply (clause_renaming c next) c.head

abbrev pub renamed_goals : Clause → ℕ → List Term
renamed_goals c next = map (apply (clause_renaming c next)) (clause_goals_of c.body)

abbrev pub renamed_body : Clause → ℕ → Term
renamed_body c next = apply (clause_renaming c next) c.body

-- the clause as it is kept: its variables numbered from 0
abbrev pub numbered : Clause → Clause
numbered c = record { head = renamed_head c 0; body = renamed_body c 0 }

-- how many numbers it takes
abbrev pub clause_takes : Clause → ℕ
clause_takes c = length (clause_variables c)

-- whether a clause belongs to a procedure
abbrev pub is_clause_of : List ℕ → ℕ → Clause → Bool
is_clause_of name arity c = same_name (name_of c.head) name && argument_count c.head == arity

-- whether a procedure has a clause in the text
abbrev pub is_defined : List Clause → List ℕ → ℕ → Bool
is_defined clauses name arity = list_any (is_clause_of name arity) clauses
