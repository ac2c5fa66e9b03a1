-- Goals that look at dynamic procedures or change them (ISO/IEC 13211-1, 8.8.1 and 8.9).
use Rattle.std.specs.Prelude.{ℕ, Bool, true, false, not, ◌&&◌, ◌||◌, ◌==◌, nat_lt, ℤ, pos, negsuc, if◌then◌else◌, List, [], ◌∷◌, ◌++◌, map, Option, Some, None, codes}
use Rattle.std.specs.Option.{is_none}
use Rattle.au_term.specs.Term.{Term, VarTerm, IntTerm, AtomTerm, Compound, Terms, end, more, arguments, argument_count, term_at}
use Rattle.au_model.specs.Terms.Forms.{same_name, name_of, binary, indicator, is_callable}
use Rattle.au_model.specs.Terms.TermTypes.{is_variable, is_integer, is_atom}
use Rattle.au_model.specs.Terms.ErrorTerms.{instantiation_error, type_error, domain_error, permission_error, representation_error}
use Rattle.au_model.specs.Syntax.OperatorChanges.{error_if, first_error}
use Rattle.run_model.specs.Programs.Bodies.{body_of}
use Rattle.run_model.specs.Programs.Clauses.{Clause, renamed_head, renamed_body, numbered, clause_takes}
use Rattle.run_model.specs.Programs.Databases.{NumberedClause, Database, clauses_of}
use Rattle.run_model.specs.Programs.DatabaseChanges.{with_first_clause, with_last_clause, without_procedure}
use Rattle.run_model.specs.Goals.Outcomes.{Reply, Solutions, Solution}
use Rattle.run_model.specs.Goals.WorldConstructs.{World, WorldConstruct, world_goal, Statics, holds_once, unless_raised}

-- a clause as a term: a head and a body, or a head alone, whose body is then `true`
abbrev pub head_in : Term → Term
head_in (Compound f (more h (more b end))) = if same_name f (codes ":-") then h else binary f h b
head_in t = t

abbrev pub body_in : Term → Term
body_in (Compound f (more h (more b end))) = if same_name f (codes ":-") then b else AtomTerm (codes "true")
body_in t = AtomTerm (codes "true")

-- a head is an atom or a compound
abbrev pub head_errors : Term → List (Option Term)
head_errors head =
    error_if (is_variable head) instantiation_error
    ∷ error_if (not (is_callable head)) (type_error (codes "callable") head)
    ∷ []

abbrev pub no_body_error : Term → Option Term
no_body_error body = error_if (is_none (body_of body)) (type_error (codes "callable") body)

abbrev pub modify_error : Term → Term
modify_error procedure = permission_error (codes "modify") (codes "static_procedure") procedure

abbrev pub access_error : Term → Term
access_error procedure = permission_error (codes "access") (codes "private_procedure") procedure

-- the error of a head whose procedure is static
abbrev pub static_error : Statics → (Term → Term) → Term → Option Term
static_error statics error head =
    let arity = argument_count head in
    error_if (statics (name_of head) arity) (error (indicator (name_of head) arity))

-- asserta(C) and assertz(C): the clause is kept as it is, with no variable in common with any other term (8.9.1 and 8.9.2)
abbrev pub assertion_error : Statics → Term → Term → Option Term
assertion_error statics head body = first_error (head_errors head ++ (no_body_error body ∷ static_error statics modify_error head ∷ []))

abbrev pub with_clause_by : (Database → Clause → Database) → Term → Option Term → Database → Database
with_clause_by add head (Some body) db = add db (numbered (record { head = head; body = body }))
with_clause_by add head None db = db

abbrev pub asserted : (Database → Clause → Database) → List ℕ → Statics → Term → World → World × Reply
asserted add name statics t w =
    unless_raised name 1 w (assertion_error statics (head_in t) (body_in t))
    (record w { database = with_clause_by add (head_in t) (body_of (body_in t)) w.database }, holds_once)

-- where a head and a body unify with those of a clause, whose variables are renamed to the next numbers
abbrev pub clause_match : Option ℕ → Term → Term → ℕ → Clause → Solution
clause_match removes head body next c = record {
  equations = (head, renamed_head c next) ∷ (body, renamed_body c next) ∷ [];
  goals = [];
  removes = removes;
  variables = clause_takes c;
}

-- a solution for each clause that there is at that moment; an unknown procedure has none
abbrev pub each_clause : (NumberedClause → Solution) → Option (List NumberedClause) → Reply
each_clause solution None = Solutions []
each_clause solution (Some cs) = Solutions (map solution cs)

abbrev pub clauses_for : Term → World → Option (List NumberedClause)
clauses_for head w = clauses_of w.database (name_of head) (argument_count head)

-- clause(H, B) (8.8.1)
abbrev pub clause_error : Statics → Term → Term → Option Term
clause_error statics head body =
    first_error (head_errors head ++ (error_if (is_integer body) (type_error (codes "callable") body) ∷ static_error statics access_error head ∷ []))

abbrev pub clause_found : Statics → Term → Term → ℕ → World → World × Reply
clause_found statics head body next w =
    unless_raised (codes "clause") 2 w (clause_error statics head body)
    (w, each_clause (λ c. clause_match None head body next c.clause) (clauses_for head w))

-- retract(C): each clause that unifies is removed as its alternative goes on, where it is still there (8.9.3)
abbrev pub retraction_error : Statics → Term → Option Term
retraction_error statics head = first_error (head_errors head ++ (static_error statics modify_error head ∷ []))

abbrev pub retracted : Statics → Term → ℕ → World → World × Reply
retracted statics t next w =
    unless_raised (codes "retract") 1 w (retraction_error statics (head_in t))
    (w, each_clause (λ c. clause_match (Some c.number) (head_in t) (body_in t) next c.clause) (clauses_for (head_in t) w))

abbrev pub is_indicator : Term → Bool
is_indicator t = same_name (name_of t) (codes "/") && argument_count t == 2

abbrev pub is_below_zero : Term → Bool
is_below_zero (IntTerm (negsuc n)) = true
is_below_zero t = false

-- the number that a term is, from 0 on
abbrev pub number_in : Term → ℕ
number_in (IntTerm (pos n)) = n
number_in t = 0

-- what Name/Arity has to be
abbrev pub indicator_error : Statics → Term → Term → Term → Option Term
indicator_error statics t name arity =
    first_error (error_if (is_variable t || (is_indicator t && (is_variable name || is_variable arity))) instantiation_error
    ∷ error_if (not (is_indicator t)) (type_error (codes "predicate_indicator") t)
    ∷ error_if (not (is_atom name)) (type_error (codes "atom") name)
    ∷ error_if (not (is_integer arity)) (type_error (codes "integer") arity)
    ∷ error_if (is_below_zero arity) (domain_error (codes "not_less_than_zero") arity)
    ∷ error_if (nat_lt 65535 (number_in arity)) (representation_error (codes "max_arity"))
    ∷ error_if (statics (name_of name) (number_in arity)) (modify_error t)
    ∷ [])

-- abolish(Name/Arity): with all its clauses, the procedure becomes unknown (8.9.4)
abbrev pub abolished : Statics → Term → World → World × Reply
abolished statics t w =
    let name = term_at 0 (arguments t) in
    let arity = term_at 1 (arguments t) in
    unless_raised (codes "abolish") 1 w (indicator_error statics t name arity)
    (record w { database = without_procedure w.database (name_of name) (number_in arity) }, holds_once)

abbrev pub database_goals : List WorldConstruct
database_goals =
    world_goal (codes "asserta") 1 (λ statics ts next w. asserted with_first_clause (codes "asserta") statics (term_at 0 ts) w)
    ∷ world_goal (codes "assertz") 1 (λ statics ts next w. asserted with_last_clause (codes "assertz") statics (term_at 0 ts) w)
    ∷ world_goal (codes "retract") 1 (λ statics ts next w. retracted statics (term_at 0 ts) next w)
    ∷ world_goal (codes "abolish") 1 (λ statics ts next w. abolished statics (term_at 0 ts) w)
    ∷ world_goal (codes "clause") 2 (λ statics ts next w. clause_found statics (term_at 0 ts) (term_at 1 ts) next w)
    ∷ []
