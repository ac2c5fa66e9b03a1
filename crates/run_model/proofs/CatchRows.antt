-- Worked rows: catch, throw and findall.
use Rattle.std.specs.Prelude.{◌≡◌, List, [], ◌∷◌, codes, refl}
use Rattle.au_term.specs.Term.{Term, VarTerm}
use Rattle.au_model.specs.Terms.Forms.{unary, binary, list_term}
use Rattle.run_model.specs.declared.ending.RunEnding.TheVariants.{Finished, Budget}
use Rattle.run_model.specs.Programs.Clauses.{Clause}
use Rattle.run_model.specs.Programs.Jobs.{Job}
use Rattle.run_model.proofs.RowTerms.{atom, int, X, Y, Z, true_atom, fail_atom, cut, equals, conj, either, catch, findall, throw, p, fact, clause, two_facts, named, only_x, asked, lines, shown}

abbrev b : Term
b = atom (codes "b")

abbrev e : Term
e = atom (codes "e")

abbrev f : Term → Term
f t = unary (codes "f") t

abbrev member : Term → Term → Term
member x l = binary (codes "member") x l

-- member(X, [X|_]). member(X, [_|T]) :- member(X, T). big(2). big(3).
abbrev members : List Clause
members =
    fact (member X (binary (codes ".") X Y))
    ∷ clause (member X (binary (codes ".") Y Z)) (member X Z)
    ∷ fact (unary (codes "big") (int 2))
    ∷ fact (unary (codes "big") (int 3))
    ∷ []

abbrev one_two_three : Term
one_two_three = list_term (int 1 ∷ int 2 ∷ int 3 ∷ [])

-- ?- catch(true, _, true).
abbrev caught : Job
caught = asked [] (catch true_atom X true_atom) []

caught_4 : shown caught 4 ≡ record { text = lines (codes "true" ∷ []); ending = Budget; answers = 1; inferences = 4 }
unfolding shown
caught_4 = refl

caught_5 : shown caught 5 ≡ record { text = lines (codes "true" ∷ codes "no" ∷ []); ending = Finished; answers = 1; inferences = 5 }
unfolding shown
caught_5 = refl

-- ?- catch(true, _, true), throw(b).   (a catch that was left catches nothing)
abbrev left_catch : Job
left_catch = asked [] (conj (catch true_atom X true_atom) (throw b)) []

left_catch_5 : shown left_catch 5 ≡ record { text = lines (codes "error: b" ∷ []); ending = Finished; answers = 0; inferences = 5 }
unfolding shown
left_catch_5 = refl

-- ?- catch(p(X), _, true), throw(b).   (nor where its goal has alternatives left)
abbrev left_open : Job
left_open = asked two_facts (conj (catch (p X) Y true_atom) (throw b)) only_x

left_open_5 : shown left_open 5 ≡ record { text = lines (codes "error: b" ∷ []); ending = Finished; answers = 0; inferences = 5 }
unfolding shown
left_open_5 = refl

-- ?- throw(f(Z)).
abbrev uncaught : Job
uncaught = asked [] (throw (f Z)) (named (codes "Z") 2 ∷ [])

uncaught_2 : shown uncaught 2 ≡ record { text = lines (codes "error: f(_0)" ∷ []); ending = Finished; answers = 0; inferences = 2 }
unfolding shown
uncaught_2 = refl

-- ?- throw(X).
abbrev throw_variable : Job
throw_variable = asked [] (throw X) only_x

throw_variable_2 : shown throw_variable 2 ≡ record { text = lines (codes "error: error(instantiation_error,throw/1)" ∷ []); ending = Finished; answers = 0; inferences = 2 }
unfolding shown
throw_variable_2 = refl

-- ?- catch(throw(f(Z)), f(A), true).
abbrev caught_copy : Job
caught_copy = asked [] (catch (throw (f X)) (f Y) true_atom) (named (codes "Z") 0 ∷ named (codes "A") 1 ∷ [])

caught_copy_7 : shown caught_copy 7 ≡ record { text = lines (codes "Z = _0, A = _1" ∷ codes "no" ∷ []); ending = Finished; answers = 1; inferences = 7 }
unfolding shown
caught_copy_7 = refl

-- t(A) :- catch(throw(f(A)), g, true). ?- catch(t(Z), B, true).   (the copy is numbered anew at the outer catch)
abbrev thrown_past : Job
thrown_past = asked (clause (unary (codes "t") X) (catch (throw (f X)) (atom (codes "g")) true_atom) ∷ []) (catch (unary (codes "t") X) Y true_atom) (named (codes "Z") 0 ∷ named (codes "B") 1 ∷ [])

thrown_past_10 : shown thrown_past 10 ≡ record { text = lines (codes "Z = _0, B = f(_2)" ∷ codes "no" ∷ []); ending = Finished; answers = 1; inferences = 10 }
unfolding shown
thrown_past_10 = refl

-- ?- catch((X = 1, throw(e)), e, true).   (what was bound inside is undone)
abbrev bindings_go : Job
bindings_go = asked [] (catch (conj (equals X (int 1)) (throw e)) e true_atom) only_x

bindings_go_8 : shown bindings_go 8 ≡ record { text = lines (codes "X = _0" ∷ codes "no" ∷ []); ending = Finished; answers = 1; inferences = 8 }
unfolding shown
bindings_go_8 = refl

-- catch((member(X, [1,2,3]), big(X), throw(found(X))), found(Y), true)
abbrev found : Job
found = asked members
    (catch (conj (member X one_two_three) (conj (unary (codes "big") X) (throw (unary (codes "found") X)))) (unary (codes "found") Y) true_atom) (named (codes "X") 0 ∷ named (codes "Y") 1 ∷ [])

found_10 : shown found 10 ≡ record { text = lines (codes "X = _0, Y = 2" ∷ []); ending = Budget; answers = 1; inferences = 10 }
unfolding shown
found_10 = refl

found_11 : shown found 11 ≡ record { text = lines (codes "X = _0, Y = 2" ∷ codes "no" ∷ []); ending = Finished; answers = 1; inferences = 11 }
unfolding shown
found_11 = refl

-- ?- catch(catch(throw(a), a, throw(b)), b, true).   (a recovery is outside its own catch)
abbrev recovery_throws : Job
recovery_throws = asked [] (catch (catch (throw (atom (codes "a"))) (atom (codes "a")) (throw b)) b true_atom) []

recovery_throws_11 : shown recovery_throws 11 ≡ record { text = lines (codes "true" ∷ codes "no" ∷ []); ending = Finished; answers = 1; inferences = 11 }
unfolding shown
recovery_throws_11 = refl

-- ?- (catch(throw(e), e, fail) ; true).   (what is under the catch stays)
abbrev alternatives_below : Job
alternatives_below = asked [] (either (catch (throw e) e fail_atom) true_atom) []

alternatives_below_100 : shown alternatives_below 100 ≡ record { text = lines (codes "true" ∷ codes "no" ∷ []); ending = Finished; answers = 1; inferences = 9 }
unfolding shown
alternatives_below_100 = refl

-- ?- catch(foo, error(E, _), true).
abbrev error_caught : Job
error_caught = asked [] (catch (atom (codes "foo")) (binary (codes "error") X Y) true_atom) (named (codes "E") 0 ∷ [])

error_caught_7 : shown error_caught 7 ≡ record { text = lines (codes "E = existence_error(procedure,foo/0)" ∷ codes "no" ∷ []); ending = Finished; answers = 1; inferences = 7 }
unfolding shown
error_caught_7 = refl

-- p(1). p(2). ?- findall(X, p(X), L).
abbrev all_facts : Job
all_facts = asked two_facts (findall X (p X) Y) (named (codes "X") 0 ∷ named (codes "L") 1 ∷ [])

all_facts_5 : shown all_facts 5 ≡ record { text = lines (codes "X = _0, L = [1,2]" ∷ []); ending = Budget; answers = 1; inferences = 5 }
unfolding shown
all_facts_5 = refl

all_facts_6 : shown all_facts 6 ≡ record { text = lines (codes "X = _0, L = [1,2]" ∷ codes "no" ∷ []); ending = Finished; answers = 1; inferences = 6 }
unfolding shown
all_facts_6 = refl

-- ?- findall(X, fail, L).
abbrev none_found : Job
none_found = asked [] (findall X fail_atom Y) (named (codes "L") 1 ∷ [])

none_found_6 : shown none_found 6 ≡ record { text = lines (codes "L = []" ∷ codes "no" ∷ []); ending = Finished; answers = 1; inferences = 6 }
unfolding shown
none_found_6 = refl

-- ?- findall(X-Y, member(X, [1,2]), L).   (each copy takes the next numbers)
abbrev result_copies : Job
result_copies = asked members (findall (binary (codes "-") X Y) (member X (list_term (int 1 ∷ int 2 ∷ []))) Z) (named (codes "X") 0 ∷ named (codes "Y") 1 ∷ named (codes "L") 2 ∷ [])

result_copies_8 : shown result_copies 8 ≡ record { text = lines (codes "X = _0, Y = _1, L = [1-_3,2-_4]" ∷ codes "no" ∷ []); ending = Finished; answers = 1; inferences = 8 }
unfolding shown
result_copies_8 = refl

-- ?- catch(findall(X, (X = 1 ; throw(e)), L), e, L = none).   (a ball drops what was collected)
abbrev results_dropped : Job
results_dropped = asked [] (catch (findall X (either (equals X (int 1)) (throw e)) Y) e (equals Y (atom (codes "none")))) (named (codes "L") 1 ∷ [])

results_dropped_100 : shown results_dropped 100 ≡ record { text = lines (codes "L = none" ∷ codes "no" ∷ []); ending = Finished; answers = 1; inferences = 11 }
unfolding shown
results_dropped_100 = refl

-- ?- findall(Y, catch((Y = 1 ; findall(X, (X = 2 ; throw(e)), _)), _, Y = 3), L).   (an outer findall keeps what it had)
abbrev results_kept : Job
results_kept = asked []
    (findall X (catch (either (equals X (int 1)) (findall Y (either (equals Y (int 2)) (throw e)) (VarTerm 2))) (VarTerm 3) (equals X (int 3))) (VarTerm 4))
    (named (codes "Y") 0 ∷ named (codes "X") 1 ∷ named (codes "L") 4 ∷ [])

results_kept_15 : shown results_kept 15 ≡ record { text = lines (codes "Y = _0, X = _1, L = [1,3]" ∷ []); ending = Budget; answers = 1; inferences = 15 }
unfolding shown
results_kept_15 = refl

results_kept_16 : shown results_kept 16 ≡ record { text = lines (codes "Y = _0, X = _1, L = [1,3]" ∷ codes "no" ∷ []); ending = Finished; answers = 1; inferences = 16 }
unfolding shown
results_kept_16 = refl

-- ?- catch(findall(X, throw(e), _), e, true).
abbrev through_findall : Job
through_findall = asked [] (catch (findall X (throw e) Y) e true_atom) only_x

through_findall_9 : shown through_findall 9 ≡ record { text = lines (codes "X = _0" ∷ codes "no" ∷ []); ending = Finished; answers = 1; inferences = 9 }
unfolding shown
through_findall_9 = refl

-- ?- findall(X, p(X), foo).   (the third argument is only unified)
abbrev list_not_checked : Job
list_not_checked = asked two_facts (findall X (p X) (atom (codes "foo"))) []

list_not_checked_100 : shown list_not_checked 100 ≡ record { text = lines (codes "no" ∷ []); ending = Finished; answers = 0; inferences = 5 }
unfolding shown
list_not_checked_100 = refl

-- ?- catch((p(X), !, throw(e)), e, true).   (a cut inside leaves the catch)
abbrev cut_keeps_catch : Job
cut_keeps_catch = asked two_facts (catch (conj (p X) (conj cut (throw e))) e true_atom) only_x

cut_keeps_catch_9 : shown cut_keeps_catch 9 ≡ record { text = lines (codes "X = _0" ∷ codes "no" ∷ []); ending = Finished; answers = 1; inferences = 9 }
unfolding shown
cut_keeps_catch_9 = refl

-- ?- catch(p(X), _, true), !.   (a cut after it drops it with its alternatives)
abbrev cut_drops_catch : Job
cut_drops_catch = asked two_facts (conj (catch (p X) Y true_atom) cut) only_x

cut_drops_catch_6 : shown cut_drops_catch 6 ≡ record { text = lines (codes "X = 1" ∷ codes "no" ∷ []); ending = Finished; answers = 1; inferences = 6 }
unfolding shown
cut_drops_catch_6 = refl

-- ?- findall(X, once(p(X)), L).
abbrev once_found : Job
once_found = asked two_facts (findall X (unary (codes "once") (p X)) Y) (named (codes "L") 1 ∷ [])

once_found_10 : shown once_found 10 ≡ record { text = lines (codes "L = [1]" ∷ codes "no" ∷ []); ending = Finished; answers = 1; inferences = 10 }
unfolding shown
once_found_10 = refl

-- w(L) :- L = g(B, C). ?- catch(throw(f(Z)), B, w(Y)).   (what goes on has numbers past the copy)
abbrev numbers_after_copy : Job
numbers_after_copy = asked (clause (unary (codes "w") X) (equals X (binary (codes "g") Y Z)) ∷ []) (catch (throw (f X)) Y (unary (codes "w") Z)) (named (codes "Z") 0 ∷ named (codes "B") 1 ∷ named (codes "Y") 2 ∷ [])

numbers_after_copy_8 : shown numbers_after_copy 8 ≡ record { text = lines (codes "Z = _0, B = f(_3), Y = g(_5,_6)" ∷ codes "no" ∷ []); ending = Finished; answers = 1; inferences = 8 }
unfolding shown
numbers_after_copy_8 = refl
