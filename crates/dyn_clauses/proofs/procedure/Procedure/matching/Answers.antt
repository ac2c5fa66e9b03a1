use Rattle.std.proofs.Common.{◌≡◌, ◌∙◌, ◌++◌, ◌∷◌, ◌||◌, ℕ, List, [], map, ap, ap₂, sym, subst, rules}
use Rattle.std.specs.Prelude.{IfOk}
use Rattle.std.specs.Map.Iter.{deref}
use Rattle.std.proofs.lemmas.Map.Iter.{iter_end}
use Rattle.dyn_clauses.specs.PositionIndex.{Placed, matching_clauses, numbered_clauses, picked}
use Rattle.std.specs.BTreeMap.{get}
use Rattle.proc_index.specs.declared.key.Key.TheVariants.{Any}
use Rattle.proc_index.specs.ProcedureIndex.{key_cmp}
use Rattle.clause_compile.specs.CompiledClauses.{shown}
use Rattle.dyn_clauses.proofs.ProcedureLemmas.{picked_push}
use Rattle.dyn_clauses.proofs.MatchingLemmas.{all_matching, picked_matching, positions_found}
use Rattle.dyn_clauses.proofs.procedure.Procedure.matching.Goals as goal

pub returns-then-is_any : goal.returns-then-is_any
returns-then-is_any c =
    subst (λ (es : Placed). IfOk c.all.result (λ found. map shown found.items ≡ numbered_clauses es)) (sym (all_matching c.args.key.now c.args.self.now (sym c.is_any.ensures ∙ c.if-is_any.true))) c.all.ensures

pub loop-position-preserved : goal.loop-position-preserved
loop-position-preserved c =
    c.in_ok-push_at.ensures
    ∙ (ap₂ (λ cs es. cs ++ numbered_clauses (picked (c.in-Some.position.now ∷ []) es)) c.loop-position.invariant c.self.view_is ∙ sym (picked_push c.loop-position.yielded c.in-Some.position c.args.self.now))

pub returns : goal.returns
returns c =
    let m = c.self.inside.clauses in
    let i = c.self.inside.index in
    let key = c.args.key.now in
    let none = c.new-none.ensures.empty in
    let ps : List ℕ = c.union-position-items.result in
    let whole : map deref c.loop-position.yielded ≡ ps = search (rules, iter_end) in
    let variables = positions_found c.get.result _ c.unwrap_or-variables.result (get key_cmp i Any) c.unwrap_or-variables.ensures none c.get.ensures.value in
    let keyed = positions_found c.get-2.result _ c.unwrap_or-keyed.result (get key_cmp i key) c.unwrap_or-keyed.ensures none c.get-2.ensures.value in
    let noted = λ (q : ℕ). c.union-position-items.ensures.members q ∙ ap₂ (λ x y. x || y) (variables q) (keyed q) in
    let here = picked_matching m i key c.self.invariant (sym c.is_any.ensures ∙ c.if-is_any.false) ps c.union-position-items.ensures.ordered noted in
    c.loop-position.invariant
    ∙ (ap (λ qs. numbered_clauses (picked qs c.args.self.now)) whole ∙ ap numbered_clauses (subst (λ (es : Placed). picked ps es ≡ matching_clauses key es) c.self.view_is here))
