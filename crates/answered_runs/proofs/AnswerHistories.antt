-- Worked histories: an answer over recoveries.
use Rattle.std.specs.Prelude.{◌≡◌, true, false, List, [], ◌∷◌, Some, codes, pos, refl}
use Rattle.au_term.specs.Term.{VarTerm, IntTerm, AtomTerm, Compound, end, more}
use Rattle.run_model.specs.declared.ending.RunEnding.TheVariants.{Finished}
use Rattle.run_model.specs.Programs.Jobs.{Job}
use Rattle.tree_model.specs.Events.{Event, Claim, Nodes, Answer}
use Rattle.tree_model.proofs.WorkedJobs.{named, query, job, lines, at_place, replayed, shown_legal}

-- Two catches whose goals have ended leave their recoveries below the answer.
-- ?- catch(catch(true, a, true), b, true), X = 1.
abbrev answer_over_catches_job : Job
answer_over_catches_job =
    job [] (query (Compound (codes ",") (more (Compound (codes "catch")
    (more (Compound (codes "catch") (more (AtomTerm (codes "true")) (more (AtomTerm (codes "a")) (more (AtomTerm (codes "true")) end))))
    (more (AtomTerm (codes "b")) (more (AtomTerm (codes "true")) end))))
    (more (Compound (codes "=") (more (VarTerm 0) (more (IntTerm (pos 1)) end))) end))) (named (codes "X") 0 ∷ []) ∷ [])

abbrev answer_over_catches_events : List Event
answer_over_catches_events =
    Claim 0 (at_place 0 0) ∷ Nodes 0 (at_place 0 0) 6 (2 ∷ 2 ∷ []) ∷ Claim 0 (at_place 2 0) ∷ Answer 0 (at_place 2 0) false ∷
    Claim 0 (at_place 3 0) ∷ Answer 0 (at_place 3 0) false ∷ []

answer_over_catches : replayed answer_over_catches_job 10 10000 answer_over_catches_events ≡ record {
  legal = true;
  text = lines
      (codes "X = 1" ∷ codes "no" ∷ []);
  end = Some Finished;
  answers = 1;
  inferences = 8;
}
unfolding replayed
answer_over_catches = refl

-- No other shape fits: one node for the answer, for one recovery or for both, or one more than there are recoveries.
other_shapes : shown_legal answer_over_catches_job 10 10000 (Claim 0 (at_place 0 0) ∷ []) ([] ∷
    (Nodes 0 (at_place 0 0) 6 (1 ∷ []) ∷ Nodes 0 (at_place 0 0) 6 (2 ∷ []) ∷ Nodes 0 (at_place 0 0) 6 (3 ∷ []) ∷
    Nodes 0 (at_place 0 0) 6 (2 ∷ 2 ∷ 2 ∷ []) ∷ Nodes 0 (at_place 0 0) 6 (2 ∷ 2 ∷ []) ∷ []) ∷ [])
    ≡ false ∷ false ∷ false ∷ false ∷ true ∷ []
unfolding shown_legal
other_shapes = refl
