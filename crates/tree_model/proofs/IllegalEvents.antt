-- Worked histories: an error beside speculation, a frozen branch, and an illegal event of each kind.
use Rattle.std.specs.Prelude.{◌≡◌, true, false, List, [], ◌∷◌, Some, None, codes, pos, refl}
use Rattle.au_term.specs.Term.{VarTerm, IntTerm, AtomTerm, Compound, end, more}
use Rattle.run_model.specs.declared.ending.RunEnding.TheVariants.{Finished}
use Rattle.run_model.specs.Programs.Jobs.{Job}
use Rattle.tree_model.specs.Events.{Event, Claim, Nodes, Empty, Collected, Lost, Suspend, Resume, Prune, Answer, Stop}
use Rattle.tree_model.proofs.WorkedJobs.{clause, named, query, job, lines, at_place, replayed, shown_legal}

-- An error beside speculation: the other worker's task is lost, and nothing of it is seen.
-- ?- nosuch ; true.
abbrev error_job : Job
error_job = job [] (query (Compound (codes ";") (more (AtomTerm (codes "nosuch")) (more (AtomTerm (codes "true")) end))) [] ∷ [])

abbrev error_events : List Event
error_events =
    Claim 0 (at_place 0 0) ∷ Nodes 0 (at_place 0 0) 1 (2 ∷ []) ∷ Claim 0 (at_place 1 0) ∷ Claim 1 (at_place 1 1) ∷
    Answer 0 (at_place 1 0) false ∷ Claim 0 (at_place 2 0) ∷ Answer 0 (at_place 2 0) false ∷ []

error : replayed error_job 10 10000 error_events ≡
    record {
      legal = true;
      text = lines (codes "error: error(existence_error(procedure,nosuch/0),nosuch/0)" ∷ []);
      end = Some Finished;
      answers = 0;
      inferences = 3;
    }
unfolding replayed
error = refl

-- A branch that has taken the whole budget is suspended as frozen, while the leftmost clock is short of it.
-- l :- l. ?- true ; l.
abbrev frozen_job : Job
frozen_job =
    job (clause (AtomTerm (codes "l")) (AtomTerm (codes "l")) ∷ [])
    (query (Compound (codes ";") (more (AtomTerm (codes "true")) (more (AtomTerm (codes "l")) end))) [] ∷ [])

abbrev frozen_events : List Event
frozen_events =
    Claim 0 (at_place 0 0) ∷ Nodes 0 (at_place 0 0) 1 (2 ∷ []) ∷ Claim 0 (at_place 1 0) ∷ Claim 1 (at_place 1 1) ∷
    Nodes 1 (at_place 1 1) 2 (1 ∷ []) ∷ Claim 1 (at_place 2 0) ∷ Suspend 1 (at_place 2 0) true ∷ []

frozen : replayed frozen_job 3 10000 frozen_events ≡ record { legal = true; text = []; end = None; answers = 0; inferences = 1 }
unfolding replayed
frozen = refl

-- p(1). ?- p(1).
abbrev fact_job : Job
fact_job =
    job (clause (Compound (codes "p") (more (IntTerm (pos 1)) end)) (AtomTerm (codes "true")) ∷ [])
    (query (Compound (codes "p") (more (IntTerm (pos 1)) end)) [] ∷ [])

-- Nothing is out yet, and only the query's goals may be claimed.
opening_refuses : shown_legal fact_job 10 10000 [] (
    (Claim 0 (at_place 0 1) ∷ Nodes 0 (at_place 0 0) 1 (1 ∷ []) ∷ Empty 0 (at_place 0 0) 1 ∷ Collected 0 (at_place 0 0) 1 ∷
    Lost 0 (at_place 0 0) ∷ Suspend 0 (at_place 0 0) false ∷ Resume 0 (at_place 0 0) ∷ Prune 0 (at_place 0 0) ∷
    Answer 0 (at_place 0 0) false ∷ []) ∷ [])
    ≡ false ∷ false ∷ false ∷ false ∷ false ∷ false ∷ false ∷ false ∷ false ∷ []
unfolding shown_legal
opening_refuses = refl

-- Out to worker 0: another worker, another place, another shape, another count, a gate that is none.
claimed_refuses : shown_legal fact_job 10 10000 (Claim 0 (at_place 0 0) ∷ []) ([] ∷
    (Claim 1 (at_place 0 0) ∷ Nodes 1 (at_place 0 0) 1 (1 ∷ []) ∷ Nodes 0 (at_place 0 1) 1 (1 ∷ []) ∷
    Nodes 0 (at_place 0 0) 1 (2 ∷ []) ∷ Nodes 0 (at_place 0 0) 0 (1 ∷ []) ∷ Empty 0 (at_place 0 0) 1 ∷
    Collected 0 (at_place 0 0) 1 ∷ Suspend 0 (at_place 0 0) false ∷ Prune 0 (at_place 0 0) ∷
    Answer 0 (at_place 0 0) false ∷ Nodes 0 (at_place 0 0) 1 (1 ∷ []) ∷ []) ∷ [])
    ≡ false ∷ false ∷ false ∷ false ∷ false ∷ false ∷ false ∷ false ∷ false ∷ false ∷ true ∷ []
unfolding shown_legal
claimed_refuses = refl

-- p(1). p(2). ?- p(X), !.
abbrev cut_job : Job
cut_job =
    job (clause (Compound (codes "p") (more (IntTerm (pos 1)) end)) (AtomTerm (codes "true")) ∷
    clause (Compound (codes "p") (more (IntTerm (pos 2)) end)) (AtomTerm (codes "true")) ∷ [])
    (query (Compound (codes ",") (more (Compound (codes "p") (more (VarTerm 0) end)) (more (AtomTerm (codes "!")) end)))
    (named (codes "X") 0 ∷ []) ∷ [])

abbrev both_out : List Event
both_out = Claim 0 (at_place 0 0) ∷ Nodes 0 (at_place 0 0) 1 (2 ∷ []) ∷ Claim 0 (at_place 1 0) ∷ Claim 1 (at_place 1 1) ∷ []

-- The second alternative's cut is not taken, and is not resumed, while the first one is open.
cut_is_not_cleared : shown_legal cut_job 10 10000 both_out ([] ∷ [] ∷ [] ∷ [] ∷
    (Prune 1 (at_place 1 1) ∷ Answer 1 (at_place 1 1) false ∷ Suspend 1 (at_place 1 1) false ∷ Prune 0 (at_place 1 0) ∷ []) ∷ [])
    ≡ false ∷ false ∷ true ∷ true ∷ []
unfolding shown_legal
cut_is_not_cleared = refl

waiting_is_not_cleared : shown_legal cut_job 10 10000
    (Claim 0 (at_place 0 0) ∷ Nodes 0 (at_place 0 0) 1 (2 ∷ []) ∷ Claim 0 (at_place 1 0) ∷ Claim 1 (at_place 1 1) ∷
    Suspend 1 (at_place 1 1) false ∷ [])
    ([] ∷ [] ∷ [] ∷ [] ∷ [] ∷ (Resume 1 (at_place 1 1) ∷ Prune 0 (at_place 1 0) ∷ []) ∷ []) ≡ false ∷ true ∷ []
unfolding shown_legal
waiting_is_not_cleared = refl

-- p(1). p(2). ?- p(X).
abbrev answers_job : Job
answers_job =
    job (clause (Compound (codes "p") (more (IntTerm (pos 1)) end)) (AtomTerm (codes "true")) ∷
    clause (Compound (codes "p") (more (IntTerm (pos 2)) end)) (AtomTerm (codes "true")) ∷ [])
    (query (Compound (codes "p") (more (VarTerm 0) end)) (named (codes "X") 0 ∷ []) ∷ [])

-- The second answer is not given while the first one is pending, and no branch is frozen that is short of the budget.
answer_is_not_first : shown_legal answers_job 10 10000 both_out ([] ∷ [] ∷ [] ∷ [] ∷
    (Answer 1 (at_place 1 1) false ∷ Suspend 1 (at_place 1 1) true ∷ Answer 0 (at_place 1 0) true ∷ Answer 0 (at_place 1 0) false ∷
    []) ∷ [])
    ≡ false ∷ false ∷ false ∷ true ∷ []
unfolding shown_legal
answer_is_not_first = refl

-- Two nodes are live: with a window of two the second alternative is not handed out beside the first, with three it is.
window_is_full : shown_legal answers_job 10 2 (Claim 0 (at_place 0 0) ∷ Nodes 0 (at_place 0 0) 1 (2 ∷ []) ∷ Claim 0 (at_place 1 0) ∷ [])
    ([] ∷ [] ∷ (Claim 0 (at_place 1 1) ∷ Claim 0 (at_place 1 0) ∷ []) ∷ (Claim 1 (at_place 1 1) ∷ []) ∷ []) ≡ false ∷ true ∷ false ∷ []
unfolding shown_legal
window_is_full = refl

window_has_room : shown_legal answers_job 10 3 (Claim 0 (at_place 0 0) ∷ Nodes 0 (at_place 0 0) 1 (2 ∷ []) ∷ Claim 0 (at_place 1 0) ∷ [])
    ([] ∷ [] ∷ [] ∷ (Claim 1 (at_place 1 1) ∷ []) ∷ []) ≡ true ∷ []
unfolding shown_legal
window_has_room = refl

-- p(1). p(2). ?- (p(X), true -> true ; fail).
abbrev condition_job : Job
condition_job =
    job (clause (Compound (codes "p") (more (IntTerm (pos 1)) end)) (AtomTerm (codes "true")) ∷
    clause (Compound (codes "p") (more (IntTerm (pos 2)) end)) (AtomTerm (codes "true")) ∷ [])
    (query (Compound (codes ";") (more (Compound (codes "->")
    (more (Compound (codes ",") (more (Compound (codes "p") (more (VarTerm 0) end)) (more (AtomTerm (codes "true")) end)))
    (more (AtomTerm (codes "true")) end))) (more (AtomTerm (codes "fail")) end))) (named (codes "X") 0 ∷ []) ∷ [])

-- The scope of the condition ends inside the first of these shapes.
scope_is_split : shown_legal condition_job 10 10000 (Claim 0 (at_place 0 0) ∷ []) ([] ∷
    (Nodes 0 (at_place 0 0) 2 (3 ∷ []) ∷ Nodes 0 (at_place 0 0) 2 (2 ∷ 2 ∷ []) ∷ []) ∷ []) ≡ false ∷ true ∷ []
unfolding shown_legal
scope_is_split = refl

-- p(1). p(2). ?- catch(p(X), e, true).
abbrev catch_job : Job
catch_job =
    job (clause (Compound (codes "p") (more (IntTerm (pos 1)) end)) (AtomTerm (codes "true")) ∷
    clause (Compound (codes "p") (more (IntTerm (pos 2)) end)) (AtomTerm (codes "true")) ∷ [])
    (query (Compound (codes "catch") (more (Compound (codes "p") (more (VarTerm 0) end))
    (more (AtomTerm (codes "e")) (more (AtomTerm (codes "true")) end)))) (named (codes "X") 0 ∷ []) ∷ [])

-- A recovery is the one further alternative of its node.
recovery_is_not_alone : shown_legal catch_job 10 10000 (Claim 0 (at_place 0 0) ∷ []) ([] ∷
    (Nodes 0 (at_place 0 0) 3 (3 ∷ []) ∷ Nodes 0 (at_place 0 0) 3 (2 ∷ 2 ∷ []) ∷ []) ∷ []) ≡ false ∷ true ∷ []
unfolding shown_legal
recovery_is_not_alone = refl

-- Where the tree has been stopped nothing is legal, another stop included.
stopped_refuses : shown_legal fact_job 10 10000 (Stop 0 ∷ []) ((Stop 0 ∷ []) ∷ (Stop 0 ∷ Claim 0 (at_place 0 0) ∷ []) ∷ [])
    ≡ true ∷ false ∷ false ∷ []
unfolding shown_legal
stopped_refuses = refl
