use Rattle.std.proofs.Common.{◌≡◌, ◌∙◌, ◌++◌, ◌∷◌, [], None, map, ap, ap₂, sym, rules}
use Rattle.std.specs.Ordering.{nat_cmp}
use Rattle.std.specs.Map.{lookup}
use Rattle.std.specs.Map.Iter.{deref_pair}
use Rattle.std.specs.BTreeMap.{insert_entry, is_at}
use Rattle.std.proofs.lemmas.Map.Iter.{rest_more, rest_so_far}
use Rattle.run_model.specs.Programs.Clauses.{Clause as ClauseTerms}
use Rattle.dyn_clauses.specs.PositionIndex.{Placed}
use Rattle.dyn_clauses.specs.KeyedClauses.{clause_of_keyed, placed_entry}
use Rattle.dyn_clauses.proofs.ProcedureLemmas.{placed_push}
use Rattle.dyn_clauses.proofs.MatchingLemmas.{below_next, put_last}
use Rattle.dyn_clauses.proofs.procedure.Procedure.copy.Goals as goal
use Rattle.dyn_clauses.proofs.procedure.Procedure.copy.Goals.{In_ok-clone}

abbrev so_far : In_ok-clone → Placed
so_far c = map placed_entry (map deref_pair c.loop-position.yielded)

fits : (c : In_ok-clone) → (lookup (is_at (nat_cmp c.in-Some.position.now)) (so_far c) ≡ None) × (insert_entry nat_cmp (so_far c) c.in-Some.position.now (clause_of_keyed c.in-Some.kept.now) ≡ so_far c ++ (c.in-Some.position.now, clause_of_keyed c.in-Some.kept.now) ∷ [])
fits c =
    let done = map deref_pair c.loop-position.yielded in
    let whole : c.into_iter-position-iterator.result ≡ c.self.inside.clauses.entries = search rules in
    let split = rest_so_far deref_pair c.loop-position.yielded c.into_iter-position-iterator.result c.loop-position.position-iterator c.loop-position.yielded_by in
    let next = rest_more deref_pair c.loop-position.position-iterator c.next.new.self c.next.result (c.in-Some.position, c.in-Some.kept) c.in-Some.is c.next.ensures.steps in
    put_last (map placed_entry done) c.in-Some.position.now (clause_of_keyed c.in-Some.kept.now)
    (below_next c.self.inside.clauses done c.next.new.self c.in-Some.position.now c.in-Some.kept.now c.self.invariant.ordered (sym whole ∙ (split ∙ ap (λ es. done ++ es) next)))

pub put-requires : goal.put-requires
put-requires c = ap (lookup (is_at (nat_cmp c.in-Some.position.now))) c.loop-position.invariant ∙ (fits c).0

pub loop-position-preserved : goal.loop-position-preserved
loop-position-preserved c =
    let f = fits (goal.at.loop-position-preserved c).In_ok-clone in
    c.in_ok-put.ensures.ok
    ∙ (ap₂ (λ (es : Placed) (d : ClauseTerms). insert_entry nat_cmp es c.in-Some.position.now d) c.loop-position.invariant c.in_ok-clone.ensures.cases ∙ (f.1 ∙ sym (placed_push c.loop-position.yielded c.in-Some.position c.in-Some.kept)))
