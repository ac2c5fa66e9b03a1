-- What holds of each element of a list.
use Rattle.std.proofs.Common.{◌≡◌, refl, ℕ, zero, suc, Bool, true, false, cond, List, [], ◌∷◌, ◌++◌, map, drop, Option, Some, None}
use Rattle.std.specs.Prelude.{find}
use Rattle.au_model.specs.Terms.Each.{Each}

abbrev pub IfFound : {X : Type 0} → (X → Type 0) → Option X → Type 0
IfFound P None = Unit {0}
IfFound P (Some x) = P x

-- what holds of each row of a table holds of the row that a look-up finds, which passes the test
pub found_row : {X : Type 0} (P : X → Type 0) (test : X → Bool) (xs : List X) → Each P xs → IfFound (λ x. P x × (test x ≡ true)) (find test xs)
found_row P test [] h = tt
found_row {X} P test (x ∷ xs) h = go (test x) refl (found_row P test xs h.1)
  where
    go : (b : Bool) → test x ≡ b → IfFound (λ y. P y × (test y ≡ true)) (find test xs) → IfFound (λ y. P y × (test y ≡ true)) (cond b (Some x) (find test xs))
    go true e k = (h.0, e)
    go false e k = k

pub each-append : {X : Type 0} (P : X → Type 0) (xs ys : List X) → Each P xs → Each P ys → Each P (xs ++ ys)
each-append P [] ys h k = k
each-append P (x ∷ xs) ys h k = (h.0, each-append P xs ys h.1 k)

pub each-map : {X Y : Type 0} (P : X → Type 0) (Q : Y → Type 0) (f : X → Y) → ((x : X) → P x → Q (f x)) → (xs : List X) → Each P xs → Each Q (map f xs)
each-map P Q f g [] h = tt
each-map P Q f g (x ∷ xs) h = (g x h.0, each-map P Q f g xs h.1)

pub each-drop : {X : Type 0} (P : X → Type 0) (n : ℕ) (xs : List X) → Each P xs → Each P (drop n xs)
each-drop P zero xs h = h
each-drop P (suc n) [] h = h
each-drop P (suc n) (x ∷ xs) h = each-drop P n xs h.1

pub each-more : {X : Type 0} (P Q : X → Type 0) → ((x : X) → P x → Q x) → (xs : List X) → Each P xs → Each Q xs
each-more P Q g [] h = tt
each-more P Q g (x ∷ xs) h = (g x h.0, each-more P Q g xs h.1)
