-- A list copied from its end.
use Rattle.std.proofs.Common.{◌≡◌, ℕ, ◌+◌, ◌-◌, ◌<◌, List, [], ◌∷◌, ◌++◌, length, get_or, take, sym, ap, ◌∙◌, arith}
use Rattle.std.specs.Prelude.{reverse}
use Rattle.std.proofs.lemmas.List.{take_more, length-reverse, get_or-reverse}
use Rattle.au_term.specs.Term.{Term}

pub take-reverse_more : (xs : List (List Term)) (i : ℕ) (x : List Term) → i < length xs → x ≡ get_or xs (length xs - 1 - i) x
    → take (i + 1) (reverse xs) ≡ take i (reverse xs) ++ x ∷ []
take-reverse_more xs i x l e =
    let n = length-reverse xs in
    let here : get_or (reverse xs) i x ≡ x = get_or-reverse xs i x l ∙ sym e in
    take_more (reverse xs) i x (omega (arith, n, l)) ∙ ap (λ (y : List Term). take i (reverse xs) ++ y ∷ []) here
