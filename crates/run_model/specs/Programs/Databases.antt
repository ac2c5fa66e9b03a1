-- The dynamic procedures (ISO/IEC 13211-1, 7.5), in order of their names and numbers of arguments.
use Rattle.std.specs.Prelude.{ℕ, Bool, ◌&&◌, ◌==◌, not, cond, List, [], Option, Some, None, map, find, filter}
use Rattle.std.specs.List.{list_any}
use Rattle.std.specs.Option.{option_map}
use Rattle.au_model.specs.Terms.Forms.{same_name}
use Rattle.run_model.specs.Programs.Clauses.{Clause}

-- a number is never given twice
pub record NumberedClause : Type 0 where
  pub number : ℕ
  pub clause : Clause

-- a procedure and its clauses, in their order
pub record DynamicProcedure : Type 0 where
  pub name : List ℕ
  pub arity : ℕ
  pub clauses : List NumberedClause

-- the procedures, and the number that the next clause gets
pub record Database : Type 0 where
  pub procedures : List DynamicProcedure
  pub next : ℕ

abbrev pub no_procedures : Database
no_procedures = record { procedures = []; next = 0 }

abbrev pub is_procedure : List ℕ → ℕ → DynamicProcedure → Bool
is_procedure name arity p = same_name p.name name && p.arity == arity

abbrev pub plain_clauses : List NumberedClause → List Clause
plain_clauses cs = map (λ c. c.clause) cs

-- the clauses of a procedure, where there is one
abbrev pub clauses_of : Database → List ℕ → ℕ → Option (List NumberedClause)
clauses_of db name arity = option_map (λ p. p.clauses) (find (is_procedure name arity) db.procedures)

abbrev pub has_number : ℕ → DynamicProcedure → Bool
has_number number p = list_any (λ c. c.number == number) p.clauses

abbrev pub procedure_without : ℕ → DynamicProcedure → DynamicProcedure
procedure_without number p = record p { clauses = filter (λ c. not (c.number == number)) p.clauses }

-- the database without the clause of this number, where there is one
abbrev pub without_clause : ℕ → Database → Option Database
without_clause number db =
    cond (list_any (has_number number) db.procedures) (Some (record db { procedures = map (procedure_without number) db.procedures })) None
