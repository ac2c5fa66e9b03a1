-- Worked histories: answers, budgets and queries.
use Rattle.std.specs.Prelude.{◌≡◌, true, false, List, [], ◌∷◌, Some, None, codes, pos, refl}
use Rattle.au_term.specs.Term.{VarTerm, IntTerm, AtomTerm, Compound, end, more}
use Rattle.run_model.specs.declared.ending.RunEnding.TheVariants.{Finished, Budget}
use Rattle.au_model.specs.Syntax.Operators.{initial_operators}
use Rattle.run_model.specs.Programs.Jobs.{Job}
use Rattle.tree_model.specs.Events.{Event, Claim, Nodes, Empty, Lost, Suspend, Resume, Prune, Answer}
use Rattle.tree_model.proofs.WorkedJobs.{clause, named, query, job, lines, at_place, replayed}

-- The smallest query, from its opening to its end, in six events.
-- p(1). ?- p(1).
abbrev smallest_query_job : Job
smallest_query_job =
    job
    (
    clause (Compound (codes "p") (more (IntTerm (pos 1)) end)) (AtomTerm (codes "true")) ∷ [])
    (
    query (Compound (codes "p") (more (IntTerm (pos 1)) end)) ([]) ∷ [])

abbrev smallest_query_events : List Event
smallest_query_events =
    Claim 0 (at_place 0 0) ∷ Nodes 0 (at_place 0 0) 1 (1 ∷ []) ∷ Claim 0 (at_place 1 0) ∷ Answer 0 (at_place 1 0) false ∷
    Claim 0 (at_place 2 0) ∷ Answer 0 (at_place 2 0) false ∷ []

smallest_query : replayed smallest_query_job 10 10000 smallest_query_events ≡ record {
  legal = true;
  text = lines
      (codes "true" ∷ codes "no" ∷ []);
  end = Some Finished;
  answers = 1;
  inferences = 3;
}
unfolding replayed
smallest_query = refl

-- Two answers and the end of the query.
-- p(1). p(2). ?- p(X).
abbrev two_answers_job : Job
two_answers_job =
    job
    (
    clause (Compound (codes "p") (more (IntTerm (pos 1)) end)) (AtomTerm (codes "true")) ∷
    clause (Compound (codes "p") (more (IntTerm (pos 2)) end)) (AtomTerm (codes "true")) ∷ [])
    (
    query (Compound (codes "p") (more (VarTerm 0) end)) (named (codes "X") 0 ∷ []) ∷ [])

abbrev two_answers_events : List Event
two_answers_events =
    Claim 0 (at_place 0 0) ∷ Nodes 0 (at_place 0 0) 1 (2 ∷ []) ∷ Claim 0 (at_place 1 0) ∷ Answer 0 (at_place 1 0) false ∷
    Claim 0 (at_place 1 1) ∷ Answer 0 (at_place 1 1) false ∷ Claim 0 (at_place 2 0) ∷ Answer 0 (at_place 2 0) false ∷ []

two_answers : replayed two_answers_job 10 10000 two_answers_events ≡ record {
  legal = true;
  text = lines
      (codes "X = 1" ∷ codes "X = 2" ∷ codes "no" ∷ []);
  end = Some Finished;
  answers = 2;
  inferences = 4;
}
unfolding replayed
two_answers = refl

-- The leftmost clock reaches the budget.
-- p(1). p(2). ?- p(X).
abbrev budget_is_used_job : Job
budget_is_used_job =
    job
    (
    clause (Compound (codes "p") (more (IntTerm (pos 1)) end)) (AtomTerm (codes "true")) ∷
    clause (Compound (codes "p") (more (IntTerm (pos 2)) end)) (AtomTerm (codes "true")) ∷ [])
    (
    query (Compound (codes "p") (more (VarTerm 0) end)) (named (codes "X") 0 ∷ []) ∷ [])

abbrev budget_is_used_events : List Event
budget_is_used_events =
    Claim 0 (at_place 0 0) ∷ Nodes 0 (at_place 0 0) 1 (2 ∷ []) ∷ Claim 0 (at_place 1 0) ∷ Answer 0 (at_place 1 0) false ∷
    Claim 0 (at_place 1 1) ∷ Answer 0 (at_place 1 1) false ∷ []

budget_is_used : replayed budget_is_used_job 3 10000 budget_is_used_events ≡ record {
  legal = true;
  text = lines
      (codes "X = 1" ∷ codes "X = 2" ∷ []);
  end = Some Budget;
  answers = 2;
  inferences = 3;
}
unfolding replayed
budget_is_used = refl

-- The second answer is suspended until all to its left is closed, and resumed.
-- p(1). p(2). ?- p(X).
abbrev answer_waits_job : Job
answer_waits_job =
    job
    (
    clause (Compound (codes "p") (more (IntTerm (pos 1)) end)) (AtomTerm (codes "true")) ∷
    clause (Compound (codes "p") (more (IntTerm (pos 2)) end)) (AtomTerm (codes "true")) ∷ [])
    (
    query (Compound (codes "p") (more (VarTerm 0) end)) (named (codes "X") 0 ∷ []) ∷ [])

abbrev answer_waits_events : List Event
answer_waits_events =
    Claim 0 (at_place 0 0) ∷ Nodes 0 (at_place 0 0) 1 (2 ∷ []) ∷ Claim 0 (at_place 1 0) ∷ Claim 1 (at_place 1 1) ∷
    Suspend 1 (at_place 1 1) false ∷ Answer 0 (at_place 1 0) false ∷ Resume 1 (at_place 1 1) ∷ Answer 1 (at_place 1 1) false ∷ []

answer_waits : replayed answer_waits_job 10 10000 answer_waits_events ≡ record {
  legal = true;
  text = lines
      (codes "X = 1" ∷ codes "X = 2" ∷ []);
  end = None;
  answers = 2;
  inferences = 3;
}
unfolding replayed
answer_waits = refl

-- A query opens where the one before has ended.
-- p(1). p(2). ?- p(X), !. ?- p(2).
abbrev two_queries_job : Job
two_queries_job =
    job
    (
    clause (Compound (codes "p") (more (IntTerm (pos 1)) end)) (AtomTerm (codes "true")) ∷
    clause (Compound (codes "p") (more (IntTerm (pos 2)) end)) (AtomTerm (codes "true")) ∷ [])
    (
    query (Compound (codes ",") (more (Compound (codes "p") (more (VarTerm 0) end)) (more (AtomTerm (codes "!")) end)))
    (named (codes "X") 0 ∷ []) ∷
    query (Compound (codes "p") (more (IntTerm (pos 2)) end)) ([]) ∷ [])

abbrev two_queries_events : List Event
two_queries_events =
    Claim 0 (at_place 0 0) ∷ Nodes 0 (at_place 0 0) 1 (2 ∷ []) ∷ Claim 0 (at_place 1 0) ∷ Suspend 0 (at_place 1 0) false ∷
    Resume 1 (at_place 1 0) ∷ Claim 0 (at_place 1 1) ∷ Suspend 1 (at_place 1 0) false ∷ Suspend 0 (at_place 1 1) false ∷
    Resume 2 (at_place 1 0) ∷ Prune 2 (at_place 1 0) ∷ Claim 1 (at_place 2 0) ∷ Answer 1 (at_place 2 0) false ∷
    Claim 1 (at_place 3 0) ∷ Suspend 1 (at_place 3 0) false ∷ Resume 0 (at_place 3 0) ∷ Suspend 0 (at_place 3 0) false ∷
    Resume 0 (at_place 3 0) ∷ Answer 0 (at_place 3 0) false ∷ Claim 1 (at_place 4 0) ∷ Nodes 1 (at_place 4 0) 1 (1 ∷ []) ∷
    Claim 1 (at_place 5 0) ∷ Suspend 1 (at_place 5 0) false ∷ Resume 0 (at_place 5 0) ∷ Suspend 0 (at_place 5 0) false ∷
    Resume 0 (at_place 5 0) ∷ Suspend 0 (at_place 5 0) false ∷ Resume 1 (at_place 5 0) ∷ Suspend 1 (at_place 5 0) false ∷
    Resume 1 (at_place 5 0) ∷ Answer 1 (at_place 5 0) false ∷ Claim 0 (at_place 6 0) ∷ Suspend 0 (at_place 6 0) false ∷
    Resume 0 (at_place 6 0) ∷ Answer 0 (at_place 6 0) false ∷ []

two_queries : replayed two_queries_job 12 10000 two_queries_events ≡ record {
  legal = true;
  text = lines
      (codes "X = 1" ∷ codes "no" ∷ codes "true" ∷ codes "no" ∷ []);
  end = Some Finished;
  answers = 2;
  inferences = 7;
}
unfolding replayed
two_queries = refl

-- Goals that ask the database wait for the front.
-- :- dynamic(k/1). k(1). k(2). ?- k(X), !. ?- k(Y).
abbrev world_changes_job : Job
world_changes_job =
    record {
      clauses = ([]);
      database = record {
        procedures =
            (record {
              name = codes "k";
              arity = 1;
              clauses =
                  (record {
                    number = 0;
                    clause = clause (Compound (codes "k") (more (IntTerm (pos 1)) end))
                        (AtomTerm (codes "true"));
                  } ∷ record {
                    number = 1;
                    clause = clause (Compound (codes "k") (more (IntTerm (pos 2)) end)) (AtomTerm (codes "true"));
                  } ∷ []);
            } ∷ []);
        next
            = 2;
      };
      operators = initial_operators;
      queries =
          (query (Compound (codes ",") (more (Compound (codes "k") (more (VarTerm 0) end)) (more (AtomTerm (codes "!")) end)))
          (named (codes "X") 0 ∷ []) ∷ query (Compound (codes "k") (more (VarTerm 0) end)) (named (codes "Y") 0 ∷ []) ∷ []);
    }

abbrev world_changes_events : List Event
world_changes_events =
    Claim 1 (at_place 0 0) ∷ Answer 1 (at_place 0 0) false ∷ Claim 1 (at_place 1 0) ∷ Suspend 1 (at_place 1 0) false ∷
    Resume 0 (at_place 1 0) ∷ Suspend 0 (at_place 1 0) false ∷ Claim 2 (at_place 1 1) ∷ Resume 2 (at_place 1 0) ∷
    Prune 2 (at_place 1 0) ∷ Lost 2 (at_place 1 1) ∷ Claim 0 (at_place 2 0) ∷ Answer 0 (at_place 2 0) false ∷
    Claim 2 (at_place 3 0) ∷ Suspend 2 (at_place 3 0) false ∷ Resume 2 (at_place 3 0) ∷ Answer 2 (at_place 3 0) false ∷
    Claim 1 (at_place 4 0) ∷ Suspend 1 (at_place 4 0) false ∷ Resume 0 (at_place 4 0) ∷ Answer 0 (at_place 4 0) false ∷
    Claim 0 (at_place 5 0) ∷ Suspend 0 (at_place 5 0) false ∷ Resume 2 (at_place 5 0) ∷ Suspend 2 (at_place 5 0) false ∷
    Resume 2 (at_place 5 0) ∷ Suspend 2 (at_place 5 0) false ∷ Resume 1 (at_place 5 0) ∷ Answer 1 (at_place 5 0) false ∷
    Claim 0 (at_place 5 1) ∷ Answer 0 (at_place 5 1) false ∷ Claim 0 (at_place 6 0) ∷ Suspend 0 (at_place 6 0) false ∷
    Resume 2 (at_place 6 0) ∷ Answer 2 (at_place 6 0) false ∷ []

world_changes : replayed world_changes_job 40 3 world_changes_events ≡ record {
  legal = true;
  text = lines
      (codes "X = 1" ∷ codes "no" ∷ codes "Y = 1" ∷ codes "Y = 2" ∷ codes "no" ∷ []);
  end = Some Finished;
  answers = 3;
  inferences = 8;
}
unfolding replayed
world_changes = refl

-- An error that nothing catches ends the query.
-- p(1). p(2). ?- p(X), ( X = 2 -> nosuch(X) ; true ).
abbrev error_ends_query_job : Job
error_ends_query_job =
    job
    (
    clause (Compound (codes "p") (more (IntTerm (pos 1)) end)) (AtomTerm (codes "true")) ∷
    clause (Compound (codes "p") (more (IntTerm (pos 2)) end)) (AtomTerm (codes "true")) ∷ [])
    (
    query (Compound (codes ",") (more (Compound (codes "p") (more (VarTerm 0) end))
    (more (Compound (codes ";") (more (Compound (codes "->")
    (more (Compound (codes "=") (more (VarTerm 0) (more (IntTerm (pos 2)) end)))
    (more (Compound (codes "nosuch") (more (VarTerm 0) end)) end))) (more (AtomTerm (codes "true")) end))) end)))
    (named (codes "X") 0 ∷ []) ∷ [])

abbrev error_ends_query_events : List Event
error_ends_query_events =
    Claim 0 (at_place 0 0) ∷ Nodes 0 (at_place 0 0) 1 (2 ∷ []) ∷ Claim 0 (at_place 1 0) ∷ Nodes 0 (at_place 1 0) 1 (2 ∷ []) ∷
    Claim 0 (at_place 2 0) ∷ Empty 0 (at_place 2 0) 1 ∷ Claim 0 (at_place 2 1) ∷ Nodes 0 (at_place 2 1) 1 (1 ∷ []) ∷
    Claim 0 (at_place 3 0) ∷ Answer 0 (at_place 3 0) false ∷ Claim 0 (at_place 1 1) ∷ Nodes 0 (at_place 1 1) 1 (2 ∷ []) ∷
    Claim 0 (at_place 4 0) ∷ Nodes 0 (at_place 4 0) 1 (1 ∷ []) ∷ Claim 0 (at_place 5 0) ∷ Suspend 0 (at_place 5 0) false ∷
    Resume 0 (at_place 5 0) ∷ Prune 0 (at_place 5 0) ∷ Claim 0 (at_place 6 0) ∷ Answer 0 (at_place 6 0) false ∷
    Claim 0 (at_place 7 0) ∷ Answer 0 (at_place 7 0) false ∷ []

error_ends_query : replayed error_ends_query_job 40 1 error_ends_query_events ≡ record {
  legal = true;
  text = lines
      (codes "X = 1" ∷ codes "error: error(existence_error(procedure,nosuch/1),nosuch/1)" ∷ []);
  end = Some Finished;
  answers = 1;
  inferences = 10;
}
unfolding replayed
error_ends_query = refl
