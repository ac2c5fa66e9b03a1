use Rattle.std.proofs.Common.{◌≡◌, ◌∙◌, List, [], ◌∷◌, map, refl, sym, ap}
use Rattle.std.proofs.lemmas.Iterator.{items_from_drains}
use Rattle.std.proofs.lemmas.Iterator.Adapters.{YieldsList-from_vec}
use Rattle.aurora_cli.proofs.words_of.Goals as goal

map_same : {A : Type 0} (xs : List A) → map (λ y. y) xs ≡ xs
map_same [] = refl
map_same (x ∷ xs) = ap (λ ys. x ∷ ys) (map_same xs)

pub returns-in-Ok-clause-ok : goal.returns-in-Ok-clause-ok
returns-in-Ok-clause-ok c =
    let ran = c.in-Ok.ensures.ran in
    let all = items_from_drains ran.1 ran.3 (YieldsList-from_vec c.args.args.rest.items (ap (λ it. it.rest.items) ran.2) (ap (λ it. it.rest.len) ran.2 ∙ c.args.args.rest.ok.0)) in
    ran.4.0 ∙ (sym (map_same ran.1) ∙ all)
