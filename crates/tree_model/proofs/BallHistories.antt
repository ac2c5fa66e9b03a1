-- Worked histories: balls.
use Rattle.std.specs.Prelude.{◌≡◌, true, false, List, [], ◌∷◌, Some, codes, pos, refl}
use Rattle.au_term.specs.Term.{VarTerm, IntTerm, AtomTerm, Compound, end, more}
use Rattle.run_model.specs.declared.ending.RunEnding.TheVariants.{Finished}
use Rattle.run_model.specs.Programs.Jobs.{Job}
use Rattle.tree_model.specs.Events.{Event, Claim, Nodes, Empty, Lost, Suspend, Resume, Prune, Answer}
use Rattle.tree_model.proofs.WorkedJobs.{clause, named, query, job, lines, at_place, replayed}

-- The goal side of the catch closes by a ball that is caught there: its recovery wakes. If it closed like one that
-- fails, there would be no answer.
-- p(1). p(2). ?- catch((p(X), throw(e)), e, true).
abbrev recovery_wakes_job : Job
recovery_wakes_job =
    job
    (
    clause (Compound (codes "p") (more (IntTerm (pos 1)) end)) (AtomTerm (codes "true")) ∷
    clause (Compound (codes "p") (more (IntTerm (pos 2)) end)) (AtomTerm (codes "true")) ∷ [])
    (
    query (Compound (codes "catch") (more
    (Compound (codes ",") (more (Compound (codes "p") (more (VarTerm 0) end))
    (more (Compound (codes "throw") (more (AtomTerm (codes "e")) end)) end)))
    (more (AtomTerm (codes "e")) (more (AtomTerm (codes "true")) end)))) (named (codes "X") 0 ∷ []) ∷ [])

abbrev recovery_wakes_events : List Event
recovery_wakes_events =
    Claim 0 (at_place 0 0) ∷ Nodes 0 (at_place 0 0) 2 (2 ∷ []) ∷ Claim 1 (at_place 1 0) ∷ Nodes 1 (at_place 1 0) 1 (2 ∷ []) ∷
    Claim 1 (at_place 2 0) ∷ Claim 0 (at_place 2 1) ∷ Prune 1 (at_place 2 0) ∷ Claim 1 (at_place 3 0) ∷
    Nodes 1 (at_place 3 0) 1 (1 ∷ []) ∷ Claim 1 (at_place 4 0) ∷ Nodes 1 (at_place 4 0) 1 (1 ∷ []) ∷ Claim 0 (at_place 5 0) ∷
    Suspend 0 (at_place 5 0) false ∷ Resume 0 (at_place 5 0) ∷ Lost 0 (at_place 2 1) ∷ Suspend 0 (at_place 5 0) false ∷
    Resume 0 (at_place 5 0) ∷ Answer 0 (at_place 5 0) false ∷ Claim 0 (at_place 6 0) ∷ Answer 0 (at_place 6 0) false ∷ []

recovery_wakes : replayed recovery_wakes_job 50 10000 recovery_wakes_events ≡ record {
  legal = true;
  text = lines
      (codes "X = _0" ∷ codes "no" ∷ []);
  end = Some Finished;
  answers = 1;
  inferences = 8;
}
unfolding replayed
recovery_wakes = refl

-- The inner catch does not unify with the ball, which goes on to the outer one.
-- p(1). p(2). ?- catch(catch((p(X), throw(a)), b, fail), a, true).
abbrev ball_goes_on_job : Job
ball_goes_on_job =
    job
    (
    clause (Compound (codes "p") (more (IntTerm (pos 1)) end)) (AtomTerm (codes "true")) ∷
    clause (Compound (codes "p") (more (IntTerm (pos 2)) end)) (AtomTerm (codes "true")) ∷ [])
    (
    query (Compound (codes "catch") (more
    (Compound (codes "catch") (more (Compound (codes ",")
    (more (Compound (codes "p") (more (VarTerm 0) end)) (more (Compound (codes "throw") (more (AtomTerm (codes "a")) end)) end)))
    (more (AtomTerm (codes "b")) (more (AtomTerm (codes "fail")) end))))
    (more (AtomTerm (codes "a")) (more (AtomTerm (codes "true")) end)))) (named (codes "X") 0 ∷ []) ∷ [])

abbrev ball_goes_on_events : List Event
ball_goes_on_events =
    Claim 1 (at_place 0 0) ∷ Nodes 1 (at_place 0 0) 1 (2 ∷ []) ∷ Claim 2 (at_place 1 0) ∷ Nodes 2 (at_place 1 0) 1 (1 ∷ []) ∷
    Claim 2 (at_place 2 0) ∷ Nodes 2 (at_place 2 0) 1 (2 ∷ []) ∷ Claim 2 (at_place 3 0) ∷ Nodes 2 (at_place 3 0) 1 (1 ∷ []) ∷
    Claim 3 (at_place 4 0) ∷ Nodes 3 (at_place 4 0) 1 (2 ∷ []) ∷ Claim 1 (at_place 5 0) ∷ Prune 1 (at_place 5 0) ∷
    Claim 3 (at_place 6 0) ∷ Nodes 3 (at_place 6 0) 1 (1 ∷ []) ∷ Claim 1 (at_place 7 0) ∷ Nodes 1 (at_place 7 0) 1 (1 ∷ []) ∷
    Claim 1 (at_place 8 0) ∷ Suspend 1 (at_place 8 0) false ∷ Resume 2 (at_place 8 0) ∷ Suspend 2 (at_place 8 0) false ∷
    Resume 0 (at_place 8 0) ∷ Answer 0 (at_place 8 0) false ∷ Claim 0 (at_place 9 0) ∷ Suspend 0 (at_place 9 0) false ∷
    Resume 0 (at_place 9 0) ∷ Suspend 0 (at_place 9 0) false ∷ Resume 2 (at_place 9 0) ∷ Suspend 2 (at_place 9 0) false ∷
    Resume 3 (at_place 9 0) ∷ Suspend 3 (at_place 9 0) false ∷ Resume 2 (at_place 9 0) ∷ Suspend 2 (at_place 9 0) false ∷
    Resume 0 (at_place 9 0) ∷ Suspend 0 (at_place 9 0) false ∷ Resume 3 (at_place 9 0) ∷ Suspend 3 (at_place 9 0) false ∷
    Resume 2 (at_place 9 0) ∷ Answer 2 (at_place 9 0) false ∷ []

ball_goes_on : replayed ball_goes_on_job 12 1 ball_goes_on_events ≡ record {
  legal = true;
  text = lines
      (codes "X = _0" ∷ codes "no" ∷ []);
  end = Some Finished;
  answers = 1;
  inferences = 10;
}
unfolding replayed
ball_goes_on = refl

-- A goal that has left a catch throws: the catch does not see the ball.
-- p(1). p(2). ?- catch(p(X), Y, true), X = 2, throw(late).
abbrev catch_is_left_job : Job
catch_is_left_job =
    job
    (
    clause (Compound (codes "p") (more (IntTerm (pos 1)) end)) (AtomTerm (codes "true")) ∷
    clause (Compound (codes "p") (more (IntTerm (pos 2)) end)) (AtomTerm (codes "true")) ∷ [])
    (
    query (Compound (codes ",") (more (Compound (codes "catch")
    (more (Compound (codes "p") (more (VarTerm 0) end)) (more (VarTerm 1) (more (AtomTerm (codes "true")) end))))
    (more (Compound (codes ",") (more (Compound (codes "=") (more (VarTerm 0) (more (IntTerm (pos 2)) end)))
    (more (Compound (codes "throw") (more (AtomTerm (codes "late")) end)) end))) end)))
    (named (codes "X") 0 ∷ named (codes "Y") 1 ∷ []) ∷ [])

abbrev catch_is_left_events : List Event
catch_is_left_events =
    Claim 0 (at_place 0 0) ∷ Nodes 0 (at_place 0 0) 1 (2 ∷ []) ∷ Claim 0 (at_place 1 0) ∷ Nodes 0 (at_place 1 0) 1 (1 ∷ []) ∷
    Claim 0 (at_place 2 0) ∷ Nodes 0 (at_place 2 0) 1 (2 ∷ []) ∷ Claim 0 (at_place 3 0) ∷ Empty 0 (at_place 3 0) 1 ∷
    Claim 0 (at_place 3 1) ∷ Nodes 0 (at_place 3 1) 1 (1 ∷ []) ∷ Claim 0 (at_place 4 0) ∷ Suspend 0 (at_place 4 0) false ∷
    Resume 0 (at_place 4 0) ∷ Prune 0 (at_place 4 0) ∷ Claim 0 (at_place 5 0) ∷ Answer 0 (at_place 5 0) false ∷ []

catch_is_left : replayed catch_is_left_job 60 10000 catch_is_left_events ≡ record {
  legal = true;
  text = lines
      (codes "error: late" ∷ []);
  end = Some Finished;
  answers = 0;
  inferences = 7;
}
unfolding replayed
catch_is_left = refl

-- A ball from the goals after an inner catch is caught by the outer one.
-- p(1). p(2). ?- catch((catch(p(X), a, true), throw(a)), a, true).
abbrev second_catch_job : Job
second_catch_job =
    job
    (
    clause (Compound (codes "p") (more (IntTerm (pos 1)) end)) (AtomTerm (codes "true")) ∷
    clause (Compound (codes "p") (more (IntTerm (pos 2)) end)) (AtomTerm (codes "true")) ∷ [])
    (
    query (Compound (codes "catch") (more
    (Compound (codes ",") (more (Compound (codes "catch")
    (more (Compound (codes "p") (more (VarTerm 0) end)) (more (AtomTerm (codes "a")) (more (AtomTerm (codes "true")) end))))
    (more (Compound (codes "throw") (more (AtomTerm (codes "a")) end)) end)))
    (more (AtomTerm (codes "a")) (more (AtomTerm (codes "true")) end)))) (named (codes "X") 0 ∷ []) ∷ [])

abbrev second_catch_events : List Event
second_catch_events =
    Claim 0 (at_place 0 0) ∷ Nodes 0 (at_place 0 0) 2 (2 ∷ []) ∷ Claim 0 (at_place 1 0) ∷ Nodes 0 (at_place 1 0) 2 (2 ∷ []) ∷
    Claim 0 (at_place 2 0) ∷ Nodes 0 (at_place 2 0) 1 (2 ∷ []) ∷ Claim 0 (at_place 3 0) ∷ Prune 0 (at_place 3 0) ∷
    Claim 0 (at_place 4 0) ∷ Nodes 0 (at_place 4 0) 2 (1 ∷ []) ∷ Claim 0 (at_place 5 0) ∷ Answer 0 (at_place 5 0) false ∷
    Claim 0 (at_place 6 0) ∷ Answer 0 (at_place 6 0) false ∷ []

second_catch : replayed second_catch_job 40 3 second_catch_events ≡ record {
  legal = true;
  text = lines
      (codes "X = _0" ∷ codes "no" ∷ []);
  end = Some Finished;
  answers = 1;
  inferences = 10;
}
unfolding replayed
second_catch = refl

-- The goal of a catch fails: its recovery goes with it, and does not wake.
-- ?- catch(fail, e, true).
abbrev catch_fails_job : Job
catch_fails_job =
    job [] (query (Compound (codes "catch") (more (AtomTerm (codes "fail")) (more (AtomTerm (codes "e"))
    (more (AtomTerm (codes "true")) end)))) [] ∷ [])

abbrev catch_fails_events : List Event
catch_fails_events =
    Claim 0 (at_place 0 0) ∷ Nodes 0 (at_place 0 0) 1 (2 ∷ []) ∷ Claim 0 (at_place 1 0) ∷ Empty 0 (at_place 1 0) 2 ∷
    Claim 0 (at_place 2 0) ∷ Answer 0 (at_place 2 0) false ∷ []

catch_fails : replayed catch_fails_job 10 10000 catch_fails_events ≡
    record { legal = true; text = lines (codes "no" ∷ []); end = Some Finished; answers = 0; inferences = 4 }
unfolding replayed
catch_fails = refl
