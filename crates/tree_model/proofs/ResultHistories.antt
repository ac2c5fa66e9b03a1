-- Worked histories: results of findall.
use Rattle.std.specs.Prelude.{◌≡◌, true, false, List, [], ◌∷◌, Some, codes, pos, refl}
use Rattle.au_term.specs.Term.{VarTerm, IntTerm, AtomTerm, Compound, end, more}
use Rattle.run_model.specs.declared.ending.RunEnding.TheVariants.{Finished}
use Rattle.run_model.specs.Programs.Jobs.{Job}
use Rattle.tree_model.specs.Events.{Event, Claim, Nodes, Collected, Suspend, Resume, Prune, Answer}
use Rattle.tree_model.proofs.WorkedJobs.{clause, named, query, job, lines, at_place, replayed}

-- Results are gathered from left to right, whatever the order in which they came.
-- p(1). p(2). ?- findall(X, p(X), L).
abbrev findall_gathers_job : Job
findall_gathers_job =
    job
    (
    clause (Compound (codes "p") (more (IntTerm (pos 1)) end)) (AtomTerm (codes "true")) ∷
    clause (Compound (codes "p") (more (IntTerm (pos 2)) end)) (AtomTerm (codes "true")) ∷ [])
    (
    query (Compound (codes "findall") (more (VarTerm 0)
    (more (Compound (codes "p") (more (VarTerm 0) end)) (more (VarTerm 1) end)))) (named (codes "X") 0 ∷ named (codes "L") 1 ∷ []) ∷ [])

abbrev findall_gathers_events : List Event
findall_gathers_events =
    Claim 0 (at_place 0 0) ∷ Nodes 0 (at_place 0 0) 2 (2 ∷ []) ∷ Claim 1 (at_place 1 0) ∷ Nodes 1 (at_place 1 0) 1 (2 ∷ []) ∷
    Claim 1 (at_place 2 0) ∷ Claim 0 (at_place 2 1) ∷ Collected 0 (at_place 2 1) 0 ∷ Collected 1 (at_place 2 0) 0 ∷
    Claim 1 (at_place 3 0) ∷ Nodes 1 (at_place 3 0) 1 (1 ∷ []) ∷ Claim 1 (at_place 4 0) ∷ Suspend 1 (at_place 4 0) false ∷
    Resume 1 (at_place 4 0) ∷ Suspend 1 (at_place 4 0) false ∷ Resume 0 (at_place 4 0) ∷ Suspend 0 (at_place 4 0) false ∷
    Resume 0 (at_place 4 0) ∷ Answer 0 (at_place 4 0) false ∷ Claim 0 (at_place 5 0) ∷ Answer 0 (at_place 5 0) false ∷ []

findall_gathers : replayed findall_gathers_job 50 10000 findall_gathers_events ≡ record {
  legal = true;
  text = lines
      (codes "X = _0, L = [1,2]" ∷ codes "no" ∷ []);
  end = Some Finished;
  answers = 1;
  inferences = 6;
}
unfolding replayed
findall_gathers = refl

-- A ball passes an inner findall: its results go, and those of the outer one remain.
-- ?- findall(Y, catch((Y = 1 ; findall(X, (X = 2 ; throw(e)), _)), _, Y = 3), L).
abbrev inner_results_go_job : Job
inner_results_go_job =
    job
    []
    (
    query (Compound (codes "findall") (more (VarTerm 0)
    (more (Compound (codes "catch") (more
    (Compound (codes ";") (more (Compound (codes "=") (more (VarTerm 0) (more (IntTerm (pos 1)) end)))
    (more (Compound (codes "findall") (more (VarTerm 1)
    (more (Compound (codes ";") (more (Compound (codes "=") (more (VarTerm 1) (more (IntTerm (pos 2)) end)))
    (more (Compound (codes "throw") (more (AtomTerm (codes "e")) end)) end))) (more (VarTerm 2) end)))) end)))
    (more (VarTerm 3) (more (Compound (codes "=") (more (VarTerm 0) (more (IntTerm (pos 3)) end))) end)))) (more (VarTerm 4) end))))
    (named (codes "Y") 0 ∷ named (codes "X") 1 ∷ named (codes "L") 4 ∷ []) ∷ [])

abbrev inner_results_go_events : List Event
inner_results_go_events =
    Claim 1 (at_place 0 0) ∷ Nodes 1 (at_place 0 0) 1 (2 ∷ []) ∷ Claim 2 (at_place 1 0) ∷ Nodes 2 (at_place 1 0) 2 (2 ∷ []) ∷
    Claim 1 (at_place 2 0) ∷ Nodes 1 (at_place 2 0) 2 (2 ∷ []) ∷ Claim 2 (at_place 3 0) ∷ Claim 2 (at_place 3 1) ∷
    Nodes 2 (at_place 3 0) 1 (1 ∷ []) ∷ Nodes 2 (at_place 3 1) 2 (2 ∷ []) ∷ Claim 0 (at_place 4 0) ∷ Collected 0 (at_place 4 0) 0 ∷
    Claim 1 (at_place 5 0) ∷ Nodes 1 (at_place 5 0) 1 (2 ∷ []) ∷ Claim 2 (at_place 6 0) ∷ Collected 2 (at_place 6 0) 1 ∷
    Claim 2 (at_place 6 1) ∷ Suspend 2 (at_place 6 1) false ∷ Resume 1 (at_place 6 1) ∷ Prune 1 (at_place 6 1) ∷
    Claim 2 (at_place 7 0) ∷ Collected 2 (at_place 7 0) 2 ∷ Claim 2 (at_place 8 0) ∷ Nodes 2 (at_place 8 0) 1 (1 ∷ []) ∷
    Claim 2 (at_place 9 0) ∷ Suspend 2 (at_place 9 0) false ∷ Resume 2 (at_place 9 0) ∷ Answer 2 (at_place 9 0) false ∷
    Claim 2 (at_place 10 0) ∷ Answer 2 (at_place 10 0) false ∷ []

inner_results_go : replayed inner_results_go_job 99 10000 inner_results_go_events ≡ record {
  legal = true;
  text = lines
      (codes "Y = _0, X = _1, L = [1,3]" ∷ codes "no" ∷ []);
  end = Some Finished;
  answers = 1;
  inferences = 16;
}
unfolding replayed
inner_results_go = refl

-- The same where results of the outer findall are on both sides of the ball.
-- p(1). p(2). ?- findall(X, (p(X) ; catch(findall(Y, (p(Y) ; throw(s)), M), s, X = 9) ; X = 10), L).
abbrev throw_past_findall_job : Job
throw_past_findall_job =
    job
    (
    clause (Compound (codes "p") (more (IntTerm (pos 1)) end)) (AtomTerm (codes "true")) ∷
    clause (Compound (codes "p") (more (IntTerm (pos 2)) end)) (AtomTerm (codes "true")) ∷ [])
    (
    query (Compound (codes "findall") (more (VarTerm 0)
    (more (Compound (codes ";") (more (Compound (codes "p") (more (VarTerm 0) end))
    (more (Compound (codes ";") (more (Compound (codes "catch")
    (more (Compound (codes "findall") (more (VarTerm 1)
    (more (Compound (codes ";") (more (Compound (codes "p") (more (VarTerm 1) end))
    (more (Compound (codes "throw") (more (AtomTerm (codes "s")) end)) end))) (more (VarTerm 2) end))))
    (more (AtomTerm (codes "s")) (more (Compound (codes "=") (more (VarTerm 0) (more (IntTerm (pos 9)) end))) end))))
    (more (Compound (codes "=") (more (VarTerm 0) (more (IntTerm (pos 10)) end))) end))) end))) (more (VarTerm 3) end))))
    (named (codes "X") 0 ∷ named (codes "Y") 1 ∷ named (codes "M") 2 ∷ named (codes "L") 3 ∷ []) ∷ [])

abbrev throw_past_findall_events : List Event
throw_past_findall_events =
    Claim 0 (at_place 0 0) ∷ Nodes 0 (at_place 0 0) 1 (2 ∷ []) ∷ Claim 0 (at_place 1 0) ∷ Nodes 0 (at_place 1 0) 3 (3 ∷ []) ∷
    Claim 1 (at_place 2 0) ∷ Claim 0 (at_place 2 1) ∷ Collected 0 (at_place 2 1) 0 ∷ Collected 1 (at_place 2 0) 0 ∷
    Claim 1 (at_place 2 2) ∷ Nodes 1 (at_place 2 2) 2 (2 ∷ 2 ∷ []) ∷ Claim 0 (at_place 4 0) ∷ Claim 1 (at_place 3 1) ∷
    Nodes 0 (at_place 4 0) 1 (1 ∷ []) ∷ Collected 1 (at_place 3 1) 1 ∷ Claim 1 (at_place 5 0) ∷
    Nodes 1 (at_place 5 0) 3 (2 ∷ 2 ∷ []) ∷ Claim 1 (at_place 7 0) ∷ Nodes 1 (at_place 7 0) 1 (2 ∷ []) ∷ Claim 0 (at_place 8 0) ∷
    Collected 0 (at_place 8 0) 0 ∷ Claim 1 (at_place 8 1) ∷ Collected 1 (at_place 8 1) 0 ∷ Claim 0 (at_place 7 1) ∷
    Suspend 0 (at_place 7 1) false ∷ Resume 1 (at_place 7 1) ∷ Prune 1 (at_place 7 1) ∷ Claim 0 (at_place 9 0) ∷
    Nodes 0 (at_place 9 0) 1 (1 ∷ []) ∷ Claim 1 (at_place 10 0) ∷ Collected 1 (at_place 10 0) 1 ∷ Claim 0 (at_place 11 0) ∷
    Nodes 0 (at_place 11 0) 1 (1 ∷ []) ∷ Claim 0 (at_place 12 0) ∷ Answer 0 (at_place 12 0) false ∷ Claim 0 (at_place 13 0) ∷
    Answer 0 (at_place 13 0) false ∷ []

throw_past_findall : replayed throw_past_findall_job 60 10000 throw_past_findall_events ≡ record {
  legal = true;
  text = lines
      (codes "X = _0, Y = _1, M = _2, L = [1,2,9,10]" ∷ codes "no" ∷ []);
  end = Some Finished;
  answers = 1;
  inferences = 18;
}
unfolding replayed
throw_past_findall = refl

-- A ball out of a findall drops its results.
-- ?- catch(findall(X, (X = 1 ; throw(e)), L), e, true).
abbrev throw_in_findall_job : Job
throw_in_findall_job =
    job
    []
    (
    query (Compound (codes "catch") (more
    (Compound (codes "findall") (more (VarTerm 0)
    (more (Compound (codes ";") (more (Compound (codes "=") (more (VarTerm 0) (more (IntTerm (pos 1)) end)))
    (more (Compound (codes "throw") (more (AtomTerm (codes "e")) end)) end))) (more (VarTerm 1) end))))
    (more (AtomTerm (codes "e")) (more (AtomTerm (codes "true")) end)))) (named (codes "X") 0 ∷ named (codes "L") 1 ∷ []) ∷ [])

abbrev throw_in_findall_events : List Event
throw_in_findall_events =
    Claim 0 (at_place 0 0) ∷ Nodes 0 (at_place 0 0) 2 (2 ∷ []) ∷ Claim 1 (at_place 1 0) ∷ Nodes 1 (at_place 1 0) 1 (2 ∷ []) ∷
    Claim 0 (at_place 2 0) ∷ Nodes 0 (at_place 2 0) 2 (2 ∷ []) ∷ Claim 0 (at_place 3 0) ∷ Nodes 0 (at_place 3 0) 1 (1 ∷ []) ∷
    Claim 1 (at_place 4 0) ∷ Collected 1 (at_place 4 0) 0 ∷ Claim 1 (at_place 3 1) ∷ Suspend 1 (at_place 3 1) false ∷
    Resume 1 (at_place 3 1) ∷ Suspend 1 (at_place 3 1) false ∷ Resume 1 (at_place 3 1) ∷ Prune 1 (at_place 3 1) ∷
    Claim 0 (at_place 5 0) ∷ Nodes 0 (at_place 5 0) 2 (1 ∷ []) ∷ Claim 1 (at_place 6 0) ∷ Answer 1 (at_place 6 0) false ∷
    Claim 0 (at_place 7 0) ∷ Suspend 0 (at_place 7 0) false ∷ Resume 0 (at_place 7 0) ∷ Answer 0 (at_place 7 0) false ∷ []

throw_in_findall : replayed throw_in_findall_job 12 2 throw_in_findall_events ≡ record {
  legal = true;
  text = lines
      (codes "X = _0, L = _1" ∷ codes "no" ∷ []);
  end = Some Finished;
  answers = 1;
  inferences = 11;
}
unfolding replayed
throw_in_findall = refl
