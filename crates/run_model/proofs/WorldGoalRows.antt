-- Worked rows: goals on dynamic procedures and operators, and goals that end the run.
use Rattle.std.specs.Prelude.{◌≡◌, ℕ, [], ◌∷◌, ◌++◌, codes, refl}
use Rattle.au_term.specs.Term.{Term}
use Rattle.au_model.specs.Terms.Forms.{unary, binary}
use Rattle.run_model.specs.declared.ending.RunEnding.TheVariants.{Finished, Halted}
use Rattle.run_model.specs.Programs.Jobs.{Job}
use Rattle.run_model.proofs.RowTerms.{atom, int, ternary, X, Y, fail_atom, conj, query, job, only_x, named, lines, shown}
use Rattle.run_model.proofs.WorldRows.{kept}

abbrev c : Term → Term
c t = unary (codes "c") t

abbrev assertz : Term → Term
assertz t = unary (codes "assertz") t

abbrev retract : Term → Term
retract t = unary (codes "retract") t

-- a job with c(1), c(2) and d/1 as dynamic procedures
abbrev asking : Term → Job
asking goal = record (job [] (query goal only_x ∷ [])) { database = kept }

-- ?- c(X), assertz(c(3)), fail.   ?- c(X).   (a call has the clauses of its moment)
abbrev later : Job
later = record (job [] (query (conj (c X) (conj (assertz (c (int 3))) fail_atom)) [] ∷ query (c X) only_x ∷ [])) { database = kept }

later_13 : shown later 13 ≡ record { text = lines (codes "no" ∷ codes "X = 1" ∷ codes "X = 2" ∷ codes "X = 3" ∷ codes "X = 3" ∷ codes "no" ∷ []); ending = Finished; answers = 4; inferences = 12 }
unfolding shown
later_13 = refl

-- ?- asserta(c(0)), c(X).
abbrev first : Job
first = asking (conj (unary (codes "asserta") (c (int 0))) (c X))

first_6 : shown first 6 ≡ record { text = lines (codes "X = 0" ∷ codes "X = 1" ∷ codes "X = 2" ∷ codes "no" ∷ []); ending = Finished; answers = 3; inferences = 6 }
unfolding shown
first_6 = refl

-- ?- retract(c(X)), retract(c(Y)), fail.   (the second alternative's clause is gone)
abbrev gone : Job
gone = asking (conj (retract (c X)) (conj (retract (c Y)) fail_atom))

gone_7 : shown gone 7 ≡ record { text = lines (codes "no" ∷ []); ending = Finished; answers = 0; inferences = 7 }
unfolding shown
gone_7 = refl

-- ?- clause(c(X), true), d(X).
abbrev found : Job
found = asking (conj (binary (codes "clause") (c X) (atom (codes "true"))) (unary (codes "d") X))

found_4 : shown found 4 ≡ record { text = lines (codes "no" ∷ []); ending = Finished; answers = 0; inferences = 4 }
unfolding shown
found_4 = refl

-- ?- abolish(c/1), c(X).
abbrev away : Job
away = asking (conj (unary (codes "abolish") (binary (codes "/") (atom (codes "c")) (int 1))) (c X))

away_3 : shown away 3 ≡ record { text = lines (codes "error: error(existence_error(procedure,c/1),c/1)" ∷ []); ending = Finished; answers = 0; inferences = 3 }
unfolding shown
away_3 = refl

-- ?- assertz((foo :- 4)).   ?- assertz((foo, bar)).   ?- abolish(foo/a).   ?- retract((x :- in_win95)).   ?- halt(64).
abbrev refused : Job
refused =
    job []
    (query (assertz (binary (codes ":-") (atom (codes "foo")) (int 4))) []
    ∷ query (assertz (conj (atom (codes "foo")) (atom (codes "bar")))) []
    ∷ query (unary (codes "abolish") (binary (codes "/") (atom (codes "foo")) (atom (codes "a")))) []
    ∷ query (retract (binary (codes ":-") (atom (codes "x")) (atom (codes "in_win95")))) []
    ∷ query (unary (codes "halt") (int 64)) []
    ∷ [])

refused_10 : shown refused 10 ≡ record {
  text =
      lines
      (codes "error: error(type_error(callable,4),assertz/1)"
      ∷ codes "error: error(permission_error(modify,static_procedure,(',')/2),assertz/1)"
      ∷ codes "error: error(type_error(integer,a),abolish/1)"
      ∷ codes "no"
      ∷ codes "error: error(domain_error(exit_status,64),halt/1)"
      ∷ []);
  ending = Finished;
  answers = 0;
  inferences = 10;
}
unfolding shown
refused_10 = refl

-- ?- op(700, xfx, same), write(same(a, b)).
abbrev declared : Job
declared = asking (conj (ternary (codes "op") (int 700) (atom (codes "xfx")) (atom (codes "same"))) (unary (codes "write") (binary (codes "same") (atom (codes "a")) (atom (codes "b")))))

declared_4 : shown declared 4 ≡ record { text = codes "a same b" ++ lines (codes "X = _0" ∷ codes "no" ∷ []); ending = Finished; answers = 1; inferences = 4 }
unfolding shown
declared_4 = refl

-- ?- current_op(X, xfx, is).
abbrev current : Job
current = asking (ternary (codes "current_op") X (atom (codes "xfx")) (atom (codes "is")))

current_3 : shown current 3 ≡ record { text = lines (codes "X = 700" ∷ codes "no" ∷ []); ending = Finished; answers = 1; inferences = 3 }
unfolding shown
current_3 = refl

-- ?- write(a), halt(3).   ?- write(b).   (the second query isn't run)
abbrev halted : Job
halted = job [] (query (conj (unary (codes "write") (atom (codes "a"))) (unary (codes "halt") (int 3))) [] ∷ query (unary (codes "write") (atom (codes "b"))) [] ∷ [])

halted_9 : shown halted 9 ≡ record { text = codes "a"; ending = Halted 3; answers = 0; inferences = 2 }
unfolding shown
halted_9 = refl
