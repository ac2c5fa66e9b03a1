-- Worked rows: cuts, tests and calls.
use Rattle.std.specs.Prelude.{◌≡◌, zero, suc, ℕ, List, [], ◌∷◌, codes, refl}
use Rattle.au_term.specs.Term.{Term, Terms, Compound, end, more}
use Rattle.au_model.specs.Terms.Forms.{unary, binary}
use Rattle.run_model.specs.declared.ending.RunEnding.TheVariants.{Finished, Budget}
use Rattle.run_model.specs.Programs.Clauses.{Clause}
use Rattle.run_model.specs.Programs.Jobs.{Job}
use Rattle.run_model.proofs.RowTerms.{atom, int, X, Y, Z, true_atom, fail_atom, cut, equals, conj, either, then_goal, call, catch, findall, ternary, p, fact, clause, two_facts, named, only_x, asked, lines, shown}

abbrev q : Term → Term
q t = unary (codes "q") t

abbrev r : Term → Term
r t = unary (codes "r") t

abbrev loop : Term
loop = atom (codes "loop")

-- p(1). p(2). and one clause for q(X)
abbrev q_with : Term → List Clause
q_with body = clause (q X) body ∷ two_facts

-- and after it the fact q(9)
abbrev q_twice : Term → List Clause
q_twice body = clause (q X) body ∷ fact (q (int 9)) ∷ two_facts

-- p(1). p(2). q(X) :- p(X), !. ?- q(X).
abbrev cut_in_clause : Job
cut_in_clause = asked (q_with (conj (p X) cut)) (q X) only_x

cut_in_clause_4 : shown cut_in_clause 4 ≡ record { text = lines (codes "X = 1" ∷ []); ending = Budget; answers = 1; inferences = 4 }
unfolding shown
cut_in_clause_4 = refl

cut_in_clause_5 : shown cut_in_clause 5 ≡ record { text = lines (codes "X = 1" ∷ codes "no" ∷ []); ending = Finished; answers = 1; inferences = 5 }
unfolding shown
cut_in_clause_5 = refl

-- ?- p(X), !.
abbrev cut_in_query : Job
cut_in_query = asked two_facts (conj (p X) cut) only_x

cut_in_query_3 : shown cut_in_query 3 ≡ record { text = lines (codes "X = 1" ∷ []); ending = Budget; answers = 1; inferences = 3 }
unfolding shown
cut_in_query_3 = refl

cut_in_query_4 : shown cut_in_query 4 ≡ record { text = lines (codes "X = 1" ∷ codes "no" ∷ []); ending = Finished; answers = 1; inferences = 4 }
unfolding shown
cut_in_query_4 = refl

-- q(X) :- p(X), !. ?- p(Y), q(X).   (a cut leaves the alternatives of the goals before its clause)
abbrev cut_below_caller : Job
cut_below_caller = asked (q_with (conj (p X) cut)) (conj (p Y) (q X)) (named (codes "Y") 1 ∷ [])

cut_below_caller_11 : shown cut_below_caller 11 ≡ record { text = lines (codes "Y = 1" ∷ codes "Y = 2" ∷ codes "no" ∷ []); ending = Finished; answers = 2; inferences = 10 }
unfolding shown
cut_below_caller_11 = refl

-- q(X) :- (p(X), ! ; X = 3). q(9). ?- q(X).   (`;` is no scope)
abbrev cut_in_first : Job
cut_in_first = asked (q_twice (either (conj (p X) cut) (equals X (int 3)))) (q X) only_x

cut_in_first_6 : shown cut_in_first 6 ≡ record { text = lines (codes "X = 1" ∷ codes "no" ∷ []); ending = Finished; answers = 1; inferences = 6 }
unfolding shown
cut_in_first_6 = refl

-- q(X) :- (fail ; p(X), !). q(9). ?- q(X).   (on neither side)
abbrev cut_in_second : Job
cut_in_second = asked (q_twice (either fail_atom (conj (p X) cut))) (q X) only_x

cut_in_second_7 : shown cut_in_second 7 ≡ record { text = lines (codes "X = 1" ∷ codes "no" ∷ []); ending = Finished; answers = 1; inferences = 7 }
unfolding shown
cut_in_second_7 = refl

-- q(X) :- (fail -> true ; p(X), !). q(9). ?- q(X).   (nor is the other branch of a test)
abbrev cut_in_else : Job
cut_in_else = asked (q_twice (either (then_goal fail_atom true_atom) (conj (p X) cut))) (q X) only_x

cut_in_else_7 : shown cut_in_else 7 ≡ record { text = lines (codes "X = 1" ∷ codes "no" ∷ []); ending = Finished; answers = 1; inferences = 7 }
unfolding shown
cut_in_else_7 = refl

-- q(X) :- p(X), (true -> ! ; true). ?- q(X).   (the branches of a test are no scope)
abbrev cut_in_then : Job
cut_in_then = asked (q_with (conj (p X) (either (then_goal true_atom cut) true_atom))) (q X) only_x

cut_in_then_8 : shown cut_in_then 8 ≡ record { text = lines (codes "X = 1" ∷ codes "no" ∷ []); ending = Finished; answers = 1; inferences = 8 }
unfolding shown
cut_in_then_8 = refl

-- ?- p(X), (p(Y), ! -> true ; fail).   (the condition is a scope)
abbrev cut_in_condition : Job
cut_in_condition = asked two_facts (conj (p X) (either (then_goal (conj (p Y) cut) true_atom) fail_atom)) only_x

cut_in_condition_14 : shown cut_in_condition 14 ≡ record { text = lines (codes "X = 1" ∷ codes "X = 2" ∷ codes "no" ∷ []); ending = Finished; answers = 2; inferences = 14 }
unfolding shown
cut_in_condition_14 = refl

-- ?- p(X), call(!).
abbrev cut_in_call : Job
cut_in_call = asked two_facts (conj (p X) (call cut)) only_x

cut_in_call_8 : shown cut_in_call 8 ≡ record { text = lines (codes "X = 1" ∷ codes "X = 2" ∷ codes "no" ∷ []); ending = Finished; answers = 2; inferences = 8 }
unfolding shown
cut_in_call_8 = refl

-- ?- p(X), \\+ (!, fail).
abbrev cut_in_not : Job
cut_in_not = asked two_facts (conj (p X) (unary (codes "\\+") (conj cut fail_atom))) only_x

cut_in_not_14 : shown cut_in_not 14 ≡ record { text = lines (codes "X = 1" ∷ codes "X = 2" ∷ codes "no" ∷ []); ending = Finished; answers = 2; inferences = 14 }
unfolding shown
cut_in_not_14 = refl

-- ?- p(X), catch(!, _, true).
abbrev cut_in_catch : Job
cut_in_catch = asked two_facts (conj (p X) (catch cut Y true_atom)) only_x

cut_in_catch_10 : shown cut_in_catch 10 ≡ record { text = lines (codes "X = 1" ∷ codes "X = 2" ∷ codes "no" ∷ []); ending = Finished; answers = 2; inferences = 10 }
unfolding shown
cut_in_catch_10 = refl

-- ?- p(X), findall(Y, (p(Y), !), L).
abbrev cut_in_findall : Job
cut_in_findall = asked two_facts (conj (p X) (findall Y (conj (p Y) cut) Z)) (named (codes "X") 0 ∷ named (codes "L") 2 ∷ [])

cut_in_findall_100 : shown cut_in_findall 100 ≡ record { text = lines (codes "X = 1, L = [1]" ∷ codes "X = 2, L = [1]" ∷ codes "no" ∷ []); ending = Finished; answers = 2; inferences = 14 }
unfolding shown
cut_in_findall_100 = refl

-- ?- (true -> true ; fail).
abbrev test : Job
test = asked [] (either (then_goal true_atom true_atom) fail_atom) []

test_5 : shown test 5 ≡ record { text = lines (codes "true" ∷ []); ending = Budget; answers = 1; inferences = 5 }
unfolding shown
test_5 = refl

test_6 : shown test 6 ≡ record { text = lines (codes "true" ∷ codes "no" ∷ []); ending = Finished; answers = 1; inferences = 6 }
unfolding shown
test_6 = refl

-- ?- (p(X) -> true ; X = 3).   (one solution of the condition)
abbrev test_commits : Job
test_commits = asked two_facts (either (then_goal (p X) true_atom) (equals X (int 3))) only_x

test_commits_6 : shown test_commits 6 ≡ record { text = lines (codes "X = 1" ∷ codes "no" ∷ []); ending = Finished; answers = 1; inferences = 6 }
unfolding shown
test_commits_6 = refl

-- ?- (fail -> true ; p(X)).
abbrev test_fails : Job
test_fails = asked two_facts (either (then_goal fail_atom true_atom) (p X)) only_x

test_fails_6 : shown test_fails 6 ≡ record { text = lines (codes "X = 1" ∷ codes "X = 2" ∷ codes "no" ∷ []); ending = Finished; answers = 2; inferences = 6 }
unfolding shown
test_fails_6 = refl

-- ?- (p(X) -> p(Y)).   (no other branch)
abbrev test_alone : Job
test_alone = asked two_facts (then_goal (p X) (p Y)) (named (codes "X") 0 ∷ named (codes "Y") 1 ∷ [])

test_alone_100 : shown test_alone 100 ≡ record { text = lines (codes "X = 1, Y = 1" ∷ codes "X = 1, Y = 2" ∷ codes "no" ∷ []); ending = Finished; answers = 2; inferences = 7 }
unfolding shown
test_alone_100 = refl

-- ?- \\+ fail.
abbrev not_fails : Job
not_fails = asked [] (unary (codes "\\+") fail_atom) []

not_fails_6 : shown not_fails 6 ≡ record { text = lines (codes "true" ∷ codes "no" ∷ []); ending = Finished; answers = 1; inferences = 6 }
unfolding shown
not_fails_6 = refl

-- r(a). r(X) :- loop, X = b. loop :- loop. ?- once(r(X)).
abbrev once_leaves : Job
once_leaves = asked
    (fact (r (atom (codes "a"))) ∷ clause (r X) (conj loop (equals X (atom (codes "b")))) ∷ clause loop loop ∷ [])
    (unary (codes "once") (r X)) only_x

once_leaves_1000 : shown once_leaves 1000 ≡ record { text = lines (codes "X = a" ∷ codes "no" ∷ []); ending = Finished; answers = 1; inferences = 7 }
unfolding shown
once_leaves_1000 = refl

-- ?- X = 1, (X ; true).
abbrev variable_goal : Job
variable_goal = asked [] (conj (equals X (int 1)) (either X true_atom)) only_x

variable_goal_4 : shown variable_goal 4 ≡ record { text = lines (codes "error: error(type_error(callable,1),call/1)" ∷ []); ending = Finished; answers = 0; inferences = 4 }
unfolding shown
variable_goal_4 = refl

-- ?- call((fail, 1)).   (the whole body is looked at before its first goal)
abbrev bad_body : Job
bad_body = asked [] (call (conj fail_atom (int 1))) []

bad_body_2 : shown bad_body 2 ≡ record { text = lines (codes "error: error(type_error(callable,(fail,1)),call/1)" ∷ []); ending = Finished; answers = 0; inferences = 2 }
unfolding shown
bad_body_2 = refl

-- ?- call(X).
abbrev call_variable : Job
call_variable = asked [] (call X) only_x

call_variable_2 : shown call_variable 2 ≡ record { text = lines (codes "error: error(instantiation_error,call/1)" ∷ []); ending = Finished; answers = 0; inferences = 2 }
unfolding shown
call_variable_2 = refl

-- ?- call(=(X), 3).
abbrev call_more : Job
call_more = asked [] (binary (codes "call") (unary (codes "=") X) (int 3)) only_x

call_more_4 : shown call_more 4 ≡ record { text = lines (codes "X = 3" ∷ codes "no" ∷ []); ending = Finished; answers = 1; inferences = 4 }
unfolding shown
call_more_4 = refl

-- ?- call(',', fail, 1).   (the whole goal is the culprit)
abbrev call_bad_whole : Job
call_bad_whole = asked [] (ternary (codes "call") (atom (codes ",")) fail_atom (int 1)) []

call_bad_whole_2 : shown call_bad_whole 2 ≡ record { text = lines (codes "error: error(type_error(callable,(fail,1)),call/3)" ∷ []); ending = Finished; answers = 0; inferences = 2 }
unfolding shown
call_bad_whole_2 = refl

-- ?- call(1, a).
abbrev call_number : Job
call_number = asked [] (binary (codes "call") (int 1) (atom (codes "a"))) []

call_number_2 : shown call_number 2 ≡ record { text = lines (codes "error: error(type_error(callable,1),call/2)" ∷ []); ending = Finished; answers = 0; inferences = 2 }
unfolding shown
call_number_2 = refl

-- ?- X = !, p(Y), X.   (a variable as a goal is called, so its cut is local)
abbrev cut_called : Job
cut_called = asked two_facts (conj (equals X cut) (conj (p Y) X)) (named (codes "Y") 1 ∷ [])

cut_called_9 : shown cut_called 9 ≡ record { text = lines (codes "Y = 1" ∷ codes "Y = 2" ∷ codes "no" ∷ []); ending = Finished; answers = 2; inferences = 9 }
unfolding shown
cut_called_9 = refl

-- ?- X = !, p(Y), (X ; fail).   (below `;` too)
abbrev cut_called_below : Job
cut_called_below = asked two_facts (conj (equals X cut) (conj (p Y) (either X fail_atom))) (named (codes "Y") 1 ∷ [])

cut_called_below_13 : shown cut_called_below 13 ≡ record { text = lines (codes "Y = 1" ∷ codes "Y = 2" ∷ codes "no" ∷ []); ending = Finished; answers = 2; inferences = 13 }
unfolding shown
cut_called_below_13 = refl

-- ?- X = !, p(Y), (true -> X ; fail).   (and below `->`)
abbrev cut_called_then : Job
cut_called_then = asked two_facts (conj (equals X cut) (conj (p Y) (either (then_goal true_atom X) fail_atom))) (named (codes "Y") 1 ∷ [])

cut_called_then_15 : shown cut_called_then 15 ≡ record { text = lines (codes "Y = 1" ∷ codes "Y = 2" ∷ codes "no" ∷ []); ending = Finished; answers = 2; inferences = 15 }
unfolding shown
cut_called_then_15 = refl

-- ?- call((true -> 1)).
abbrev bad_then : Job
bad_then = asked [] (call (then_goal true_atom (int 1))) []

bad_then_2 : shown bad_then 2 ≡ record { text = lines (codes "error: error(type_error(callable,(true -> 1)),call/1)" ∷ []); ending = Finished; answers = 0; inferences = 2 }
unfolding shown
bad_then_2 = refl

abbrev ones : ℕ → Terms
ones zero = end
ones (suc n) = more (int 1) (ones n)

abbrev call_f : ℕ → Term
call_f n = Compound (codes "call") (more (atom (codes "f")) (ones n))

-- ?- call(f, 1, 1, 1, 1, 1, 1, 1).   (eight arguments at most)
abbrev call_eight : Job
call_eight = asked [] (call_f 7) []

call_eight_3 : shown call_eight 3 ≡ record { text = lines (codes "error: error(existence_error(procedure,f/7),f/7)" ∷ []); ending = Finished; answers = 0; inferences = 3 }
unfolding shown
call_eight_3 = refl

-- ?- call(f, 1, 1, 1, 1, 1, 1, 1, 1).   (with nine it is a procedure as any other)
abbrev call_nine : Job
call_nine = asked [] (call_f 8) []

call_nine_2 : shown call_nine 2 ≡ record { text = lines (codes "error: error(existence_error(procedure,call/9),call/9)" ∷ []); ending = Finished; answers = 0; inferences = 2 }
unfolding shown
call_nine_2 = refl
