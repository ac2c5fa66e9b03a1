-- What the solutions tell that were found for a goal of the world.
use Rattle.std.proofs.Common.{◌≡◌, ℕ, ◌+◌, Bool, true, false, cond, List, [], ◌∷◌, ◌++◌, map, filter, None, refl, sym, ap, ◌∙◌, subst}
use Rattle.au_model.specs.Syntax.Operators.{OperatorRow}
use Rattle.au_model.specs.Terms.Unifier.{unifier}
use Rattle.run_model.specs.Goals.Outcomes.{Reply, Solutions, Solution}
use Rattle.run_model.specs.Machine.Entries.{solution_entry, solution_entries, unified}
use Rattle.run_model.specs.Machine.Items.{Continuation, before, removing, with_next, goals_at}
use Rattle.run_model.specs.Programs.Databases.{NumberedClause}
use Rattle.cell_store.specs.StoreView.{IsValidStore}
use Rattle.effect_gate.specs.Effects.{AreFound}
use Rattle.region_split.specs.Regions.{RegionView}
use Rattle.region_split.specs.Solutions.{SolutionView}
use Rattle.region_split.specs.SolutionTrials.{AreSolutionsHere}
use Rattle.region_split.specs.StackOperations.{solution_here}
use Rattle.region_world.specs.FoundSolutions.{IsMatchingIn, clause_unified, found_solution}
use Rattle.region_world.specs.RowSolutions.{AreAskedIn, operator_unified, row_solution}
use Rattle.region_world.specs.WorldAnswers.{AreOfReply}
use Rattle.region_world.specs.declared.found.Matching.{Matching}
use Rattle.region_world.specs.declared.rows.Asked.{Asked}
use Rattle.region_world.proofs.FoundLemmas.{found_here, found_same}
use Rattle.region_world.proofs.RowLemmas.{rows_here, rows_same}

-- clauses that were left out leave nothing
left_out : (k : ℕ) (f : Continuation ℕ) (solution : NumberedClause → Solution) (p : NumberedClause → Bool) → ((c : NumberedClause) → p c ≡ false → unifier (solution c).equations ≡ None)
    → (all : List NumberedClause) → solution_entries k f (map solution (filter p all)) ≡ solution_entries k f (map solution all)
left_out k f solution p others [] = refl
left_out k f solution p others (c ∷ cs) = by (p c) refl (left_out k f solution p others cs)
  where
    by : (b : Bool) → p c ≡ b → solution_entries k f (map solution (filter p cs)) ≡ solution_entries k f (map solution cs) → solution_entries k f (map solution (cond b (c ∷ filter p cs) (filter p cs))) ≡ solution_entries k f (map solution (c ∷ cs))
    by true e h = ap (λ es. solution_entry k f (solution c) ++ es) h
    by false e h =
        h
        ∙ ap (λ o. unified o (with_next (f.next + (solution c).variables) (before (goals_at k (solution c).goals) (removing (solution c).removes f))) ++ solution_entries k f (map solution cs)) (sym (others c e))

found_of_reply : (solution : NumberedClause → Solution) (reply : Reply) (found : List NumberedClause) → AreFound solution reply found → AreOfReply (map solution found) reply
found_of_reply solution reply found h = record {
  all = map solution h.all;
  replies = h.replies;
  leave = λ k f. sym (ap (λ cs. solution_entries k f (map solution cs)) h.kept ∙ left_out k f solution h.may_unify h.others h.all);
}

abbrev pub AreTold : RegionView → Reply → List SolutionView → Type 0
AreTold r reply solutions = AreSolutionsHere r solutions × AreOfReply (map (solution_here r) solutions) reply

pub clauses_told : (r : RegionView) → IsValidStore r.store → (m : Matching) (cs : List NumberedClause) (reply : Reply) (solutions : List SolutionView) → IsMatchingIn r.store m
    → solutions ≡ map (found_solution m r.store.now.next) cs → AreFound (clause_unified r.store m) reply cs → AreTold r reply solutions
clauses_told r valid m cs reply solutions there is found = (
  subst (AreSolutionsHere r) (sym is) (found_here r valid m there cs),
  subst (λ xs. AreOfReply xs reply) (sym (ap (map (solution_here r)) is ∙ found_same r valid m cs)) (found_of_reply (clause_unified r.store m) reply cs found),
)

pub rows_told : (r : RegionView) (asked : Asked) (rows : List OperatorRow) (reply : Reply) (solutions : List SolutionView) → AreAskedIn r.store asked → solutions ≡ map (row_solution asked) rows
    → reply ≡ Solutions (map (operator_unified r.store asked) rows) → AreTold r reply solutions
rows_told r asked rows reply solutions there is replies = (
  subst (AreSolutionsHere r) (sym is) (rows_here r asked there rows),
  record {
    all = map (operator_unified r.store asked) rows;
    replies = replies;
    leave = λ k f. ap (solution_entries k f) (sym (ap (map (solution_here r)) is ∙ rows_same r asked rows));
  },
)
