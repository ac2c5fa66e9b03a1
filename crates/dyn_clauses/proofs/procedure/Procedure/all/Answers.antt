use Rattle.std.proofs.Common.{◌≡◌, ◌∙◌, ◌++◌, ◌∷◌, [], map, ap, sym, rules}
use Rattle.std.specs.Map.Iter.{deref_pair}
use Rattle.std.proofs.lemmas.Map.Iter.{iter_end}
use Rattle.dyn_clauses.specs.PositionIndex.{numbered_clauses}
use Rattle.dyn_clauses.specs.KeyedClauses.{numbered_keyed, placed_entry}
use Rattle.clause_compile.specs.CompiledClauses.{shown}
use Rattle.dyn_clauses.proofs.ProcedureLemmas.{numbered_push}
use Rattle.dyn_clauses.proofs.procedure.Procedure.all.Goals as goal

pub loop-position-init : goal.loop-position-init
loop-position-init c = ap (map shown) c.new-found.ensures.items

pub loop-position-preserved : goal.loop-position-preserved
loop-position-preserved c =
    c.in_ok-push.ensures
    ∙ (ap (λ cs. cs ++ numbered_keyed c.in-Some.position.now c.in-Some.kept.now ∷ []) c.loop-position.invariant ∙ sym (numbered_push c.loop-position.yielded c.in-Some.position c.in-Some.kept))

pub returns : goal.returns
returns c =
    let whole : map deref_pair c.loop-position.yielded ≡ c.self.inside.clauses.entries = search (rules, iter_end) in
    c.loop-position.invariant ∙ (ap (λ es. numbered_clauses (map placed_entry es)) whole ∙ ap numbered_clauses c.self.view_is)
