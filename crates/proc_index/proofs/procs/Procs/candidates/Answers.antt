use Rattle.std.proofs.Common.{◌≡◌, ◌<◌, List, map, length, Option, Some, None, refl, ap, ◌∙◌, sym, subst, arith, vec_len}
use Rattle.std.specs.Global.{Global}
use Rattle.std.specs.declared.sync.Arc.{Arc}
use Rattle.clause_compile.specs.declared.clause.Clause.{Clause}
use Rattle.std.proofs.lemmas.Bool.{eqb-true}
use Rattle.std.proofs.lemmas.List.{nil_from_length, length-map}
use Rattle.std.specs.Arc.{arc_value}
use Rattle.au_model.specs.Terms.Each.{Each}
use Rattle.run_model.specs.Programs.Clauses.{is_clause_of}
use Rattle.proc_index.specs.declared.procedure.Procedure.{Procedure}
use Rattle.proc_index.specs.Places.{merged, clauses_at}
use Rattle.proc_index.specs.ProcedureIndex.{IsListed, found_in, candidates_of}
use Rattle.proc_index.proofs.IndexLemmas.{Found, found, no_candidates, some_candidates, positive}
use Rattle.proc_index.proofs.procs.Procs.candidates.Goals as goal
use Rattle.proc_index.proofs.procs.Procs.candidates.Goals.{In_ok-procedure, After-places_of}

pub returns-in_err-get-clause-candidates : goal.returns-in_err-get-clause-candidates
returns-in_err-get-clause-candidates c =
    let cs = map arc_value c.self.inside.clauses.items in
    let o : Option Procedure = None in
    let listed = subst (λ o. IsListed o (is_clause_of c.args.name.now c.args.arity) cs) (ap (λ x. found_in x c.args.arity) (sym c.in_err-get.ensures.value)) (c.self.invariant.indexed c.args.name.now c.args.arity) in
    c.from_residual.ensures ∙ (no_candidates cs c.args.name.now c.args.arity c.args.first.now o listed refl ∙ ap (λ ds. candidates_of ds c.args.name.now c.args.arity c.args.first.now) c.self.view_is)

pub returns-in_err-procedure-clause-candidates : goal.returns-in_err-procedure-clause-candidates
returns-in_err-procedure-clause-candidates c =
    let cs = map arc_value c.self.inside.clauses.items in
    let o : Option Procedure = None in
    let listed = subst (λ o. IsListed o (is_clause_of c.args.name.now c.args.arity) cs) (ap (λ x. found_in x c.args.arity) (sym c.in_ok-get.ensures.value) ∙ sym c.in_err-procedure.ensures.value) (c.self.invariant.indexed c.args.name.now c.args.arity) in
    c.from_residual-in_err-procedure.ensures ∙ (no_candidates cs c.args.name.now c.args.arity c.args.first.now o listed refl ∙ ap (λ ds. candidates_of ds c.args.name.now c.args.arity c.args.first.now) c.self.view_is)

listed : (c : In_ok-procedure) → IsListed (Some c.in_ok-procedure.procedure.now) (is_clause_of c.args.name.now c.args.arity) (map arc_value c.self.inside.clauses.items)
listed c =
    subst (λ o. IsListed o (is_clause_of c.args.name.now c.args.arity) (map arc_value c.self.inside.clauses.items)) (ap (λ x. found_in x c.args.arity) (sym c.in_ok-get.ensures.value) ∙ sym c.in_ok-procedure.ensures.value)
    (c.self.invariant.indexed c.args.name.now c.args.arity)

pub returns-then-is_empty-clause-candidates : goal.returns-then-is_empty-clause-candidates
returns-then-is_empty-clause-candidates c =
    let all = c.in_ok-procedure.procedure.now.all in
    let none : length all.items ≡ 0 = let e = eqb-true _ 0 (sym c.is_empty.ensures ∙ c.if-is_empty.true) in omega (arith, e, all.ok.0) in
    no_candidates (map arc_value c.self.inside.clauses.items) c.args.name.now c.args.arity c.args.first.now (Some c.in_ok-procedure.procedure.now) (listed (goal.at.returns-then-is_empty-clause-candidates c).In_ok-procedure) (nil_from_length all.items none)
    ∙ ap (λ ds. candidates_of ds c.args.name.now c.args.arity c.args.first.now) c.self.view_is

those : (c : After-places_of) → Found (map arc_value c.self.inside.clauses.items) (is_clause_of c.args.name.now c.args.arity) c.args.first.now c.places_of.result.left.now c.places_of.result.right.now
those c =
    let cs = map arc_value c.self.inside.clauses.items in
    let o : Option Procedure = Some c.in_ok-procedure.procedure.now in
    let all = subst (λ o. IsListed o (is_clause_of c.args.name.now c.args.arity) cs) (ap (λ x. found_in x c.args.arity) (sym c.in_ok-get.ensures.value) ∙ sym c.in_ok-procedure.ensures.value) (c.self.invariant.indexed c.args.name.now c.args.arity) in
    found cs o (is_clause_of c.args.name.now c.args.arity) c.args.first.now c.places_of.result.left.now c.places_of.result.right.now all c.places_of.ensures.left c.places_of.ensures.right

pub invariant_of-result : goal.invariant_of-result
invariant_of-result c =
    let long : length (map arc_value c.self.inside.clauses.items) ≡ length c.deref.result.now = length-map c.self.inside.clauses.items arc_value ∙ ap length (sym c.deref.ensures.value) in
    subst (λ n. Each (λ i. i < n) (merged c.places_of.result.left.now c.places_of.result.right.now)) long (those c).within

pub returns-clause-candidates : goal.returns-clause-candidates
returns-clause-candidates c =
    let cs = map arc_value c.self.inside.clauses.items in
    let places = merged c.places_of.result.left.now c.places_of.result.right.now in
    let all = c.in_ok-procedure.procedure.now.all in
    let at = goal.at.returns-clause-candidates c in
    let some : 0 < length all.items = positive (length all.items) (vec_len all) (omega (arith, all.ok.0)) (sym c.is_empty.ensures ∙ c.if-is_empty.false) in
    some_candidates cs c.args.name.now c.args.arity c.args.first.now (Some c.in_ok-procedure.procedure.now) (clauses_at (map arc_value c.deref.result.now) places) (listed at.In_ok-procedure) some
    (ap (λ (ds : List (Arc Clause Global)). clauses_at (map arc_value ds) places) c.deref.ensures.value ∙ (those at.After-places_of).clauses_are)
    ∙ ap (λ ds. candidates_of ds c.args.name.now c.args.arity c.args.first.now) c.self.view_is
