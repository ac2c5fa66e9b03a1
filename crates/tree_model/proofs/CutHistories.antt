-- Worked histories: cuts.
use Rattle.std.specs.Prelude.{◌≡◌, true, false, List, [], ◌∷◌, Some, codes, pos, refl}
use Rattle.au_term.specs.Term.{VarTerm, IntTerm, AtomTerm, Compound, end, more}
use Rattle.run_model.specs.declared.ending.RunEnding.TheVariants.{Finished}
use Rattle.run_model.specs.Programs.Jobs.{Job}
use Rattle.tree_model.specs.Events.{Event, Claim, Nodes, Empty, Lost, Suspend, Resume, Prune, Answer}
use Rattle.tree_model.proofs.WorkedJobs.{clause, named, query, job, lines, at_place, replayed}

-- A cut prunes an alternative that is out to another worker, whose task is then lost.
-- p(1). p(2) :- q. q. ?- p(X), !.
abbrev cut_prunes_claimed_job : Job
cut_prunes_claimed_job =
    job
    (
    clause (Compound (codes "p") (more (IntTerm (pos 1)) end)) (AtomTerm (codes "true")) ∷
    clause (Compound (codes "p") (more (IntTerm (pos 2)) end)) (AtomTerm (codes "q")) ∷
    clause (AtomTerm (codes "q")) (AtomTerm (codes "true")) ∷ [])
    (
    query (Compound (codes ",") (more (Compound (codes "p") (more (VarTerm 0) end)) (more (AtomTerm (codes "!")) end)))
    (named (codes "X") 0 ∷ []) ∷ [])

abbrev cut_prunes_claimed_events : List Event
cut_prunes_claimed_events =
    Claim 0 (at_place 0 0) ∷ Nodes 0 (at_place 0 0) 1 (2 ∷ []) ∷ Claim 0 (at_place 1 0) ∷ Claim 1 (at_place 1 1) ∷
    Prune 0 (at_place 1 0) ∷ Lost 1 (at_place 1 1) ∷ Claim 1 (at_place 2 0) ∷ Answer 1 (at_place 2 0) false ∷
    Claim 0 (at_place 3 0) ∷ Answer 0 (at_place 3 0) false ∷ []

cut_prunes_claimed : replayed cut_prunes_claimed_job 100 10000 cut_prunes_claimed_events ≡ record {
  legal = true;
  text = lines
      (codes "X = 1" ∷ codes "no" ∷ []);
  end = Some Finished;
  answers = 1;
  inferences = 4;
}
unfolding replayed
cut_prunes_claimed = refl

-- The alternative to the right has closed already: its credit goes with the cut.
-- p(1). p(2) :- fail. ?- p(X), !.
abbrev pruned_credit_job : Job
pruned_credit_job =
    job
    (
    clause (Compound (codes "p") (more (IntTerm (pos 1)) end)) (AtomTerm (codes "true")) ∷
    clause (Compound (codes "p") (more (IntTerm (pos 2)) end)) (AtomTerm (codes "fail")) ∷ [])
    (
    query (Compound (codes ",") (more (Compound (codes "p") (more (VarTerm 0) end)) (more (AtomTerm (codes "!")) end)))
    (named (codes "X") 0 ∷ []) ∷ [])

abbrev pruned_credit_events : List Event
pruned_credit_events =
    Claim 0 (at_place 0 0) ∷ Nodes 0 (at_place 0 0) 1 (2 ∷ []) ∷ Claim 0 (at_place 1 0) ∷ Suspend 0 (at_place 1 0) false ∷
    Claim 0 (at_place 1 1) ∷ Empty 0 (at_place 1 1) 1 ∷ Resume 0 (at_place 1 0) ∷ Prune 0 (at_place 1 0) ∷ Claim 0 (at_place 2 0) ∷
    Answer 0 (at_place 2 0) false ∷ Claim 0 (at_place 3 0) ∷ Answer 0 (at_place 3 0) false ∷ []

pruned_credit : replayed pruned_credit_job 9 10000 pruned_credit_events ≡ record {
  legal = true;
  text = lines
      (codes "X = 1" ∷ codes "no" ∷ []);
  end = Some Finished;
  answers = 1;
  inferences = 4;
}
unfolding replayed
pruned_credit = refl

-- To the right below the scope are the alternatives at the nodes on the path: those at the scope itself remain. If a
-- cut pruned at every descendant of the scope, two of these answers would be missing.
-- u :- !. ?- (u ; (true ; true)).
abbrev right_below_scope_job : Job
right_below_scope_job =
    job
    (
    clause (AtomTerm (codes "u")) (AtomTerm (codes "!")) ∷ [])
    (
    query (Compound (codes ";") (more (AtomTerm (codes "u"))
    (more (Compound (codes ";") (more (AtomTerm (codes "true")) (more (AtomTerm (codes "true")) end))) end))) ([]) ∷ [])

abbrev right_below_scope_events : List Event
right_below_scope_events =
    Claim 3 (at_place 0 0) ∷ Nodes 3 (at_place 0 0) 2 (2 ∷ []) ∷ Claim 3 (at_place 1 0) ∷ Nodes 3 (at_place 1 0) 1 (1 ∷ []) ∷
    Claim 2 (at_place 2 0) ∷ Suspend 2 (at_place 2 0) false ∷ Resume 3 (at_place 2 0) ∷ Answer 3 (at_place 2 0) false ∷
    Claim 3 (at_place 1 1) ∷ Nodes 3 (at_place 1 1) 2 (2 ∷ []) ∷ Claim 3 (at_place 3 0) ∷ Answer 3 (at_place 3 0) false ∷
    Claim 2 (at_place 3 1) ∷ Nodes 2 (at_place 3 1) 1 (1 ∷ []) ∷ Claim 0 (at_place 4 0) ∷ Suspend 0 (at_place 4 0) false ∷
    Resume 2 (at_place 4 0) ∷ Suspend 2 (at_place 4 0) false ∷ Resume 1 (at_place 4 0) ∷ Answer 1 (at_place 4 0) false ∷
    Claim 1 (at_place 5 0) ∷ Suspend 1 (at_place 5 0) false ∷ Resume 0 (at_place 5 0) ∷ Suspend 0 (at_place 5 0) false ∷
    Resume 2 (at_place 5 0) ∷ Suspend 2 (at_place 5 0) false ∷ Resume 0 (at_place 5 0) ∷ Suspend 0 (at_place 5 0) false ∷
    Resume 0 (at_place 5 0) ∷ Suspend 0 (at_place 5 0) false ∷ Resume 0 (at_place 5 0) ∷ Answer 0 (at_place 5 0) false ∷ []

right_below_scope : replayed right_below_scope_job 12 2 right_below_scope_events ≡ record {
  legal = true;
  text = lines
      (codes "true" ∷ codes "true" ∷ codes "true" ∷ codes "no" ∷ []);
  end = Some Finished;
  answers = 3;
  inferences = 10;
}
unfolding replayed
right_below_scope = refl

-- The credit of an alternative that has failed is not added beyond a scope that an entry to its left may cut to: this
-- run takes seven inferences, and would show six.
-- u :- v, !. v. v :- fail. ?- (u ; fail).
abbrev credit_beyond_scope_job : Job
credit_beyond_scope_job =
    job
    (
    clause (AtomTerm (codes "u")) (Compound (codes ",") (more (AtomTerm (codes "v")) (more (AtomTerm (codes "!")) end))) ∷
    clause (AtomTerm (codes "v")) (AtomTerm (codes "true")) ∷
    clause (AtomTerm (codes "v")) (AtomTerm (codes "fail")) ∷ [])
    (
    query (Compound (codes ";") (more (AtomTerm (codes "u")) (more (AtomTerm (codes "fail")) end))) ([]) ∷ [])

abbrev credit_beyond_scope_events : List Event
credit_beyond_scope_events =
    Claim 0 (at_place 0 0) ∷ Nodes 0 (at_place 0 0) 1 (2 ∷ []) ∷ Claim 0 (at_place 1 0) ∷ Claim 2 (at_place 1 1) ∷
    Nodes 0 (at_place 1 0) 1 (1 ∷ []) ∷ Claim 0 (at_place 2 0) ∷ Empty 2 (at_place 1 1) 1 ∷ Nodes 0 (at_place 2 0) 1 (2 ∷ []) ∷
    Claim 0 (at_place 3 0) ∷ Claim 0 (at_place 3 1) ∷ Suspend 0 (at_place 3 0) false ∷ Empty 0 (at_place 3 1) 1 ∷
    Resume 1 (at_place 3 0) ∷ Prune 1 (at_place 3 0) ∷ Claim 2 (at_place 4 0) ∷ Suspend 2 (at_place 4 0) false ∷
    Resume 1 (at_place 4 0) ∷ Suspend 1 (at_place 4 0) false ∷ Resume 1 (at_place 4 0) ∷ Suspend 1 (at_place 4 0) false ∷
    Resume 2 (at_place 4 0) ∷ Answer 2 (at_place 4 0) false ∷ Claim 0 (at_place 5 0) ∷ Suspend 0 (at_place 5 0) false ∷
    Resume 1 (at_place 5 0) ∷ Answer 1 (at_place 5 0) false ∷ []

credit_beyond_scope : replayed credit_beyond_scope_job 60 10000 credit_beyond_scope_events ≡ record {
  legal = true;
  text = lines
      (codes "true" ∷ codes "no" ∷ []);
  end = Some Finished;
  answers = 1;
  inferences = 7;
}
unfolding replayed
credit_beyond_scope = refl

-- The condition of an if-then-else commits by a cut.
-- p(1). p(2). ?- (p(X) -> true ; X = 0).
abbrev condition_commits_job : Job
condition_commits_job =
    job
    (
    clause (Compound (codes "p") (more (IntTerm (pos 1)) end)) (AtomTerm (codes "true")) ∷
    clause (Compound (codes "p") (more (IntTerm (pos 2)) end)) (AtomTerm (codes "true")) ∷ [])
    (
    query (Compound (codes ";") (more (Compound (codes "->")
    (more (Compound (codes "p") (more (VarTerm 0) end)) (more (AtomTerm (codes "true")) end)))
    (more (Compound (codes "=") (more (VarTerm 0) (more (IntTerm (pos 0)) end))) end))) (named (codes "X") 0 ∷ []) ∷ [])

abbrev condition_commits_events : List Event
condition_commits_events =
    Claim 1 (at_place 0 0) ∷ Nodes 1 (at_place 0 0) 2 (2 ∷ 2 ∷ []) ∷ Claim 1 (at_place 2 0) ∷ Suspend 1 (at_place 2 0) false ∷
    Resume 1 (at_place 2 0) ∷ Prune 1 (at_place 2 0) ∷ Claim 1 (at_place 3 0) ∷ Nodes 1 (at_place 3 0) 1 (1 ∷ []) ∷
    Claim 0 (at_place 4 0) ∷ Answer 0 (at_place 4 0) false ∷ Claim 1 (at_place 5 0) ∷ Suspend 1 (at_place 5 0) false ∷
    Resume 0 (at_place 5 0) ∷ Answer 0 (at_place 5 0) false ∷ []

condition_commits : replayed condition_commits_job 12 3 condition_commits_events ≡ record {
  legal = true;
  text = lines
      (codes "X = 1" ∷ codes "no" ∷ []);
  end = Some Finished;
  answers = 1;
  inferences = 6;
}
unfolding replayed
condition_commits = refl

-- The commit of once is taken while all to the left of its scope is still open: the worker of its second solution is lost.
-- p(1). p(2). ?- (true ; once(p(X))).
abbrev once_commits_job : Job
once_commits_job =
    job
    (
    clause (Compound (codes "p") (more (IntTerm (pos 1)) end)) (AtomTerm (codes "true")) ∷
    clause (Compound (codes "p") (more (IntTerm (pos 2)) end)) (AtomTerm (codes "true")) ∷ [])
    (
    query (Compound (codes ";") (more (AtomTerm (codes "true"))
    (more (Compound (codes "once") (more (Compound (codes "p") (more (VarTerm 0) end)) end)) end))) (named (codes "X") 0 ∷ []) ∷ [])

abbrev once_commits_events : List Event
once_commits_events =
    Claim 0 (at_place 0 0) ∷ Nodes 0 (at_place 0 0) 1 (2 ∷ []) ∷ Claim 0 (at_place 1 0) ∷ Claim 1 (at_place 1 1) ∷
    Nodes 1 (at_place 1 1) 3 (2 ∷ 2 ∷ []) ∷ Claim 1 (at_place 3 0) ∷ Claim 2 (at_place 3 1) ∷ Prune 1 (at_place 3 0) ∷
    Lost 2 (at_place 3 1) ∷ Claim 2 (at_place 4 0) ∷ Nodes 2 (at_place 4 0) 1 (1 ∷ []) ∷ Claim 2 (at_place 5 0) ∷
    Suspend 2 (at_place 5 0) false ∷ Nodes 0 (at_place 1 0) 1 (1 ∷ []) ∷ Claim 0 (at_place 6 0) ∷ Answer 0 (at_place 6 0) false ∷
    Resume 1 (at_place 5 0) ∷ Answer 1 (at_place 5 0) false ∷ Claim 0 (at_place 7 0) ∷ Answer 0 (at_place 7 0) false ∷ []

once_commits : replayed once_commits_job 20 10000 once_commits_events ≡ record {
  legal = true;
  text = lines
      (codes "X = _0" ∷ codes "X = 1" ∷ codes "no" ∷ []);
  end = Some Finished;
  answers = 2;
  inferences = 10;
}
unfolding replayed
once_commits = refl

-- A cut in a called goal is local to it.
-- p(1). p(2). ?- call(p, X), call((p(Y), !)).
abbrev cut_in_call_job : Job
cut_in_call_job =
    job
    (
    clause (Compound (codes "p") (more (IntTerm (pos 1)) end)) (AtomTerm (codes "true")) ∷
    clause (Compound (codes "p") (more (IntTerm (pos 2)) end)) (AtomTerm (codes "true")) ∷ [])
    (
    query (Compound (codes ",") (more (Compound (codes "call") (more (AtomTerm (codes "p")) (more (VarTerm 0) end)))
    (more (Compound (codes "call") (more
    (Compound (codes ",") (more (Compound (codes "p") (more (VarTerm 1) end)) (more (AtomTerm (codes "!")) end))) end)) end)))
    (named (codes "X") 0 ∷ named (codes "Y") 1 ∷ []) ∷ [])

abbrev cut_in_call_events : List Event
cut_in_call_events =
    Claim 3 (at_place 0 0) ∷ Nodes 3 (at_place 0 0) 1 (1 ∷ []) ∷ Claim 2 (at_place 1 0) ∷ Nodes 2 (at_place 1 0) 4 (2 ∷ []) ∷
    Claim 0 (at_place 2 0) ∷ Claim 1 (at_place 2 1) ∷ Nodes 1 (at_place 2 1) 1 (1 ∷ []) ∷ Answer 0 (at_place 2 0) false ∷
    Claim 2 (at_place 3 0) ∷ Nodes 2 (at_place 3 0) 1 (2 ∷ []) ∷ Claim 2 (at_place 4 0) ∷ Suspend 2 (at_place 4 0) false ∷
    Claim 3 (at_place 4 1) ∷ Suspend 3 (at_place 4 1) false ∷ Resume 3 (at_place 4 0) ∷ Prune 3 (at_place 4 0) ∷
    Claim 2 (at_place 5 0) ∷ Suspend 2 (at_place 5 0) false ∷ Resume 0 (at_place 5 0) ∷ Suspend 0 (at_place 5 0) false ∷
    Resume 1 (at_place 5 0) ∷ Suspend 1 (at_place 5 0) false ∷ Resume 2 (at_place 5 0) ∷ Suspend 2 (at_place 5 0) false ∷
    Resume 3 (at_place 5 0) ∷ Suspend 3 (at_place 5 0) false ∷ Resume 0 (at_place 5 0) ∷ Suspend 0 (at_place 5 0) false ∷
    Resume 3 (at_place 5 0) ∷ Suspend 3 (at_place 5 0) false ∷ Resume 2 (at_place 5 0) ∷ Suspend 2 (at_place 5 0) false ∷
    Resume 1 (at_place 5 0) ∷ Answer 1 (at_place 5 0) false ∷ Claim 3 (at_place 6 0) ∷ Answer 3 (at_place 6 0) false ∷ []

cut_in_call : replayed cut_in_call_job 40 10000 cut_in_call_events ≡ record {
  legal = true;
  text = lines
      (codes "X = 1, Y = 1" ∷ codes "X = 2, Y = 1" ∷ codes "no" ∷ []);
  end = Some Finished;
  answers = 2;
  inferences = 11;
}
unfolding replayed
cut_in_call = refl

-- A cut in a rule prunes alternatives of the goals before it alone.
-- p(1). p(2). q(X) :- p(X), !. ?- q(X).
abbrev cut_in_rule_job : Job
cut_in_rule_job =
    job
    (
    clause (Compound (codes "p") (more (IntTerm (pos 1)) end)) (AtomTerm (codes "true")) ∷
    clause (Compound (codes "p") (more (IntTerm (pos 2)) end)) (AtomTerm (codes "true")) ∷
    clause (Compound (codes "q") (more (VarTerm 0) end))
    (Compound (codes ",") (more (Compound (codes "p") (more (VarTerm 0) end)) (more (AtomTerm (codes "!")) end))) ∷ [])
    (
    query (Compound (codes "q") (more (VarTerm 0) end)) (named (codes "X") 0 ∷ []) ∷ [])

abbrev cut_in_rule_events : List Event
cut_in_rule_events =
    Claim 0 (at_place 0 0) ∷ Nodes 0 (at_place 0 0) 1 (1 ∷ []) ∷ Claim 0 (at_place 1 0) ∷ Nodes 0 (at_place 1 0) 1 (2 ∷ []) ∷
    Claim 0 (at_place 2 0) ∷ Claim 0 (at_place 2 1) ∷ Prune 0 (at_place 2 0) ∷ Lost 0 (at_place 2 1) ∷ Claim 0 (at_place 3 0) ∷
    Suspend 0 (at_place 3 0) false ∷ Resume 0 (at_place 3 0) ∷ Suspend 0 (at_place 3 0) false ∷ Resume 0 (at_place 3 0) ∷
    Suspend 0 (at_place 3 0) false ∷ Resume 0 (at_place 3 0) ∷ Answer 0 (at_place 3 0) false ∷ Claim 0 (at_place 4 0) ∷
    Answer 0 (at_place 4 0) false ∷ []

cut_in_rule : replayed cut_in_rule_job 40 10000 cut_in_rule_events ≡ record {
  legal = true;
  text = lines
      (codes "X = 1" ∷ codes "no" ∷ []);
  end = Some Finished;
  answers = 1;
  inferences = 5;
}
unfolding replayed
cut_in_rule = refl

-- The same under a budget of four inferences: it has finished, and with the credit left it would have used its budget.
pruned_credit_at_budget : replayed pruned_credit_job 4 10000 pruned_credit_events ≡ record {
  legal = true;
  text = lines
      (codes "X = 1" ∷ codes "no" ∷ []);
  end = Some Finished;
  answers = 1;
  inferences = 4;
}
unfolding replayed
pruned_credit_at_budget = refl
