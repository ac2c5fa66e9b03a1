-- Worked rows: dynamic procedures declared, changed and taken away.
use Rattle.std.specs.Prelude.{◌≡◌, ℕ, [], ◌∷◌, codes, refl, Some, None}
use Rattle.au_model.specs.Terms.Forms.{unary}
use Rattle.run_model.specs.Programs.Clauses.{Clause}
use Rattle.run_model.specs.Programs.Databases.{Database, NumberedClause, no_procedures, clauses_of, without_clause}
use Rattle.run_model.specs.Programs.DatabaseChanges.{declared_in, with_first_clause, with_last_clause, without_procedure}
use Rattle.run_model.proofs.RowTerms.{int, fact}

-- q(N).
abbrev q : ℕ → Clause
q n = fact (unary (codes "q") (int n))

abbrev numbered : ℕ → Clause → NumberedClause
numbered number clause = record { number = number; clause = clause }

-- q(1), and then q(0) before it
abbrev two : Database
two = with_first_clause (with_last_clause no_procedures (q 1)) (q 0)

in_order : clauses_of two (codes "q") 1 ≡ Some (numbered 1 (q 0) ∷ numbered 0 (q 1) ∷ [])
in_order = refl

-- a number is not given again
abbrev one : Database
one = record { procedures = (record { name = codes "q"; arity = 1; clauses = numbered 0 (q 1) ∷ [] }) ∷ []; next = 2 }

removed : without_clause 1 two ≡ Some one
removed = refl

added_again : clauses_of (with_last_clause one (q 0)) (codes "q") 1 ≡ Some (numbered 0 (q 1) ∷ numbered 2 (q 0) ∷ [])
added_again = refl

-- r/0 is known without clauses, and procedures are in the order of their names and numbers of arguments
declared : declared_in (declared_in two (codes "r") 0) (codes "q") 0 ≡ record {
  procedures =
      (record { name = codes "q"; arity = 0; clauses = [] })
      ∷ (record { name = codes "q"; arity = 1; clauses = numbered 1 (q 0) ∷ numbered 0 (q 1) ∷ [] })
      ∷ (record { name = codes "r"; arity = 0; clauses = [] })
      ∷ [];
  next = 2;
}
declared = refl

-- a procedure that is declared again keeps its clauses
declared_twice : declared_in two (codes "q") 1 ≡ two
declared_twice = refl

abolished : without_procedure two (codes "q") 1 ≡ record { procedures = []; next = 2 }
abolished = refl

unknown : clauses_of two (codes "r") 0 ≡ None
unknown = refl
