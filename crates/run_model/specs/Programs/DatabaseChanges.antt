-- The dynamic procedures as they are declared, changed and taken away (ISO/IEC 13211-1, 7.4.2.1 and 8.9).
use Rattle.std.specs.Prelude.{ℕ, ◌+◌, not, List, [], ◌∷◌, ◌++◌, filter}
use Rattle.std.specs.Ordering.{nat_cmp, ordering_then}
use Rattle.std.specs.declared.cmp.Ordering.{Ordering}
use Rattle.std.specs.declared.cmp.Ordering.TheVariants.{Less, Equal, Greater}
use Rattle.std.specs.Cmp.Lexicographic.{slice_cmp}
use Rattle.au_term.specs.Term.{argument_count}
use Rattle.au_model.specs.Terms.Forms.{name_of}
use Rattle.run_model.specs.Programs.Clauses.{Clause}
use Rattle.run_model.specs.Programs.Databases.{NumberedClause, DynamicProcedure, Database, is_procedure}

-- by their names' characters, and then by their numbers of arguments
abbrev pub procedure_order : List ℕ → ℕ → DynamicProcedure → Ordering
procedure_order name arity p = ordering_then (slice_cmp nat_cmp name p.name) (nat_cmp arity p.arity)

-- a procedure with its clauses changed, in its place: before this one, in its stead, or further on
abbrev pub procedure_placed : Ordering → (List NumberedClause → List NumberedClause) → List ℕ → ℕ → DynamicProcedure → List DynamicProcedure → List DynamicProcedure → List DynamicProcedure
procedure_placed Less change name arity p ps further = record { name = name; arity = arity; clauses = change [] } ∷ p ∷ ps
procedure_placed Equal change name arity p ps further = record p { clauses = change p.clauses } ∷ ps
procedure_placed Greater change name arity p ps further = p ∷ further

-- the procedures with one of them changed, which had no clauses where it was unknown
abbrev pub with_procedure : (List NumberedClause → List NumberedClause) → List ℕ → ℕ → List DynamicProcedure → List DynamicProcedure
with_procedure change name arity [] = record { name = name; arity = arity; clauses = change [] } ∷ []
with_procedure change name arity (p ∷ ps) = procedure_placed (procedure_order name arity p) change name arity p ps (with_procedure change name arity ps)

-- a procedure that is known from then on, though it may have no clauses (7.4.2.1)
abbrev pub declared_in : Database → List ℕ → ℕ → Database
declared_in db name arity = record db { procedures = with_procedure (λ cs. cs) name arity db.procedures }

-- the clause with the next number
abbrev pub next_clause : Database → Clause → NumberedClause
next_clause db c = record { number = db.next; clause = c }

-- a clause before the others of its procedure (8.9.1)
abbrev pub with_first_clause : Database → Clause → Database
with_first_clause db c = record { procedures = with_procedure (λ cs. next_clause db c ∷ cs) (name_of c.head) (argument_count c.head) db.procedures; next = db.next + 1 }

-- a clause after the others of its procedure (8.9.2)
abbrev pub with_last_clause : Database → Clause → Database
with_last_clause db c = record { procedures = with_procedure (λ cs. cs ++ next_clause db c ∷ []) (name_of c.head) (argument_count c.head) db.procedures; next = db.next + 1 }

-- a procedure with all its clauses taken away is unknown (8.9.4)
abbrev pub without_procedure : Database → List ℕ → ℕ → Database
without_procedure db name arity = record db { procedures = filter (λ p. not (is_procedure name arity p)) db.procedures }
