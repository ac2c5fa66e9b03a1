-- Goals of queries.
use Rattle.std.proofs.Common.{◌≡◌, List, [], ◌∷◌, refl, ap}
use Rattle.au_term.specs.Term.{Term}
use Rattle.clause_compile.specs.CompiledClauses.{goal_items}
use Rattle.clause_compile.specs.declared.item.Scope.{Scope}
use Rattle.text_load.specs.QueryView.{goal_terms}

pub terms_back : (cut : Scope) (gs : List Term) → goal_terms (goal_items cut gs) ≡ gs
terms_back cut [] = refl
terms_back cut (g ∷ gs) = ap (λ ts. g ∷ ts) (terms_back cut gs)
