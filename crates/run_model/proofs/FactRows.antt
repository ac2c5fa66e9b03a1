-- Worked rows: facts and rules.
use Rattle.std.specs.Prelude.{◌≡◌, [], ◌∷◌, codes, refl}
use Rattle.au_term.specs.Term.{Term}
use Rattle.au_model.specs.Terms.Forms.{unary, binary}
use Rattle.run_model.specs.declared.ending.RunEnding.TheVariants.{Finished, Budget}
use Rattle.run_model.specs.Programs.Jobs.{Job}
use Rattle.run_model.proofs.RowTerms.{atom, int, X, Y, Z, true_atom, equals, conj, ternary, query, job, p, fact, clause, two_facts, named, only_x, asked, lines, shown}

abbrev zero_term : Term
zero_term = atom (codes "z")

abbrev s_of : Term → Term
s_of t = unary (codes "s") t

abbrev add : Term → Term → Term → Term
add a b c = ternary (codes "add") a b c

-- p(1). p(2). ?- p(X).
abbrev facts : Job
facts = asked two_facts (p X) only_x

facts_1 : shown facts 1 ≡ record { text = []; ending = Budget; answers = 0; inferences = 1 }
unfolding shown
facts_1 = refl

facts_2 : shown facts 2 ≡ record { text = lines (codes "X = 1" ∷ []); ending = Budget; answers = 1; inferences = 2 }
unfolding shown
facts_2 = refl

facts_3 : shown facts 3 ≡ record { text = lines (codes "X = 1" ∷ codes "X = 2" ∷ []); ending = Budget; answers = 2; inferences = 3 }
unfolding shown
facts_3 = refl

facts_4 : shown facts 4 ≡ record { text = lines (codes "X = 1" ∷ codes "X = 2" ∷ codes "no" ∷ []); ending = Finished; answers = 2; inferences = 4 }
unfolding shown
facts_4 = refl

facts_5 : shown facts 5 ≡ record { text = lines (codes "X = 1" ∷ codes "X = 2" ∷ codes "no" ∷ []); ending = Finished; answers = 2; inferences = 4 }
unfolding shown
facts_5 = refl

-- p(1). ?- p(1).
abbrev one_fact : Job
one_fact = asked (fact (p (int 1)) ∷ []) (p (int 1)) []

one_fact_2 : shown one_fact 2 ≡ record { text = lines (codes "true" ∷ []); ending = Budget; answers = 1; inferences = 2 }
unfolding shown
one_fact_2 = refl

one_fact_3 : shown one_fact 3 ≡ record { text = lines (codes "true" ∷ codes "no" ∷ []); ending = Finished; answers = 1; inferences = 3 }
unfolding shown
one_fact_3 = refl

-- a text without queries has ended at once
abbrev nothing_asked : Job
nothing_asked = job two_facts []

nothing_asked_0 : shown nothing_asked 0 ≡ record { text = []; ending = Finished; answers = 0; inferences = 0 }
unfolding shown
nothing_asked_0 = refl

-- p(1). p(2). ?- p(X). ?- p(3).
abbrev two_queries : Job
two_queries = job two_facts (query (p X) only_x ∷ query (p (int 3)) [] ∷ [])

two_queries_4 : shown two_queries 4 ≡ record { text = lines (codes "X = 1" ∷ codes "X = 2" ∷ codes "no" ∷ []); ending = Budget; answers = 2; inferences = 4 }
unfolding shown
two_queries_4 = refl

two_queries_5 : shown two_queries 5 ≡ record { text = lines (codes "X = 1" ∷ codes "X = 2" ∷ codes "no" ∷ []); ending = Budget; answers = 2; inferences = 5 }
unfolding shown
two_queries_5 = refl

two_queries_6 : shown two_queries 6 ≡ record { text = lines (codes "X = 1" ∷ codes "X = 2" ∷ codes "no" ∷ codes "no" ∷ []); ending = Finished; answers = 2; inferences = 6 }
unfolding shown
two_queries_6 = refl

-- n :- n. ?- n.
abbrev loop : Job
loop = asked (clause (atom (codes "n")) (atom (codes "n")) ∷ []) (atom (codes "n")) []

loop_10 : shown loop 10 ≡ record { text = []; ending = Budget; answers = 0; inferences = 10 }
unfolding shown
loop_10 = refl

-- ?- foo.
abbrev unknown : Job
unknown = asked [] (atom (codes "foo")) []

unknown_2 : shown unknown 2 ≡ record { text = lines (codes "error: error(existence_error(procedure,foo/0),foo/0)" ∷ []); ending = Finished; answers = 0; inferences = 2 }
unfolding shown
unknown_2 = refl

-- ?- X = f(X).
abbrev occurs_check : Job
occurs_check = asked [] (equals X (unary (codes "f") X)) only_x

occurs_check_2 : shown occurs_check 2 ≡ record { text = lines (codes "no" ∷ []); ending = Finished; answers = 0; inferences = 2 }
unfolding shown
occurs_check_2 = refl

-- t :- true. u :- true, true. ?- t. ?- u.   (a clause whose whole body is `true` has no goal)
abbrev true_body : Job
true_body = job (clause (atom (codes "t")) true_atom ∷ clause (atom (codes "u")) (conj true_atom true_atom) ∷ []) (query (atom (codes "t")) [] ∷ query (atom (codes "u")) [] ∷ [])

true_body_8 : shown true_body 8 ≡ record { text = lines (codes "true" ∷ codes "no" ∷ codes "true" ∷ codes "no" ∷ []); ending = Finished; answers = 2; inferences = 8 }
unfolding shown
true_body_8 = refl

-- w(L) :- L = g(B, C, B). ?- w(X).   (new variables by first occurrence, head first)
abbrev fresh_numbers : Job
fresh_numbers = asked (clause (unary (codes "w") X) (equals X (ternary (codes "g") Y Z Y)) ∷ []) (unary (codes "w") X) only_x

fresh_numbers_4 : shown fresh_numbers 4 ≡ record { text = lines (codes "X = g(_2,_3,_2)" ∷ codes "no" ∷ []); ending = Finished; answers = 1; inferences = 4 }
unfolding shown
fresh_numbers_4 = refl

-- m(f(A)). m(g(B, C)). ?- m(X).   (each clause starts at the same number)
abbrev siblings : Job
siblings = asked (fact (unary (codes "m") (unary (codes "f") X)) ∷ fact (unary (codes "m") (binary (codes "g") X Y)) ∷ []) (unary (codes "m") X) only_x

siblings_4 : shown siblings 4 ≡ record { text = lines (codes "X = f(_1)" ∷ codes "X = g(_1,_2)" ∷ codes "no" ∷ []); ending = Finished; answers = 2; inferences = 4 }
unfolding shown
siblings_4 = refl

-- add(z, N, N). add(s(M), N, s(K)) :- add(M, N, K). ?- add(X, Y, s(s(z))).
abbrev peano : Job
peano = asked
    (fact (add zero_term X X)
    ∷ clause (add (s_of X) Y (s_of Z)) (add X Y Z)
    ∷ [])
    (add X Y (s_of (s_of zero_term))) (named (codes "X") 0 ∷ named (codes "Y") 1 ∷ [])

peano_7 : shown peano 7 ≡ record { text = lines (codes "X = z, Y = s(s(z))" ∷ codes "X = s(z), Y = s(z)" ∷ codes "X = s(s(z)), Y = z" ∷ codes "no" ∷ []); ending = Finished; answers = 3; inferences = 7 }
unfolding shown
peano_7 = refl
