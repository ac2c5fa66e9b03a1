-- Worked rows: dynamic procedures.
use Rattle.std.specs.Prelude.{◌≡◌, [], ◌∷◌, codes, refl, Some, None}
use Rattle.au_model.specs.Terms.Forms.{unary}
use Rattle.run_model.specs.declared.ending.RunEnding.TheVariants.{Finished}
use Rattle.run_model.specs.Programs.Databases.{Database, without_clause}
use Rattle.run_model.specs.Programs.Jobs.{Job}
use Rattle.run_model.proofs.RowTerms.{int, X, fact, two_facts, only_x, asked, lines, shown}

-- c(1). c(2). as a dynamic procedure, and d/1 without clauses
abbrev pub kept : Database
kept = record {
  procedures =
      (record { name = codes "c"; arity = 1; clauses = (record { number = 0; clause = fact (unary (codes "c") (int 1)) }) ∷ (record { number = 1; clause = fact (unary (codes "c") (int 2)) }) ∷ [] })
      ∷ (record { name = codes "d"; arity = 1; clauses = [] })
      ∷ [];
  next = 2;
}

-- ?- c(X).
abbrev dynamic : Job
dynamic = record (asked two_facts (unary (codes "c") X) only_x) { database = kept }

dynamic_4 : shown dynamic 4 ≡ record { text = lines (codes "X = 1" ∷ codes "X = 2" ∷ codes "no" ∷ []); ending = Finished; answers = 2; inferences = 4 }
unfolding shown
dynamic_4 = refl

-- ?- d(X).   (a procedure without clauses is no unknown one)
abbrev empty : Job
empty = record (asked two_facts (unary (codes "d") X) only_x) { database = kept }

empty_2 : shown empty 2 ≡ record { text = lines (codes "no" ∷ []); ending = Finished; answers = 0; inferences = 2 }
unfolding shown
empty_2 = refl

-- the clause of a number goes once
removed : without_clause 0 kept ≡ Some (record kept {
  procedures =
      (record { name = codes "c"; arity = 1; clauses = (record { number = 1; clause = fact (unary (codes "c") (int 2)) }) ∷ [] })
      ∷ (record { name = codes "d"; arity = 1; clauses = [] })
      ∷ [];
})
removed = refl

gone : without_clause 2 kept ≡ None
gone = refl
