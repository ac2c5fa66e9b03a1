-- Lists.
use Rattle.std.proofs.Common.{◌≡◌, Bool, true, false, cond, List, [], ◌∷◌, ◌++◌, Some, None, refl, ap, subst}
use Rattle.std.specs.Prelude.{find}
use Rattle.au_model.specs.Terms.Each.{Each}

pub each-append : {X : Type 0} → (P : X → Type 0) (xs ys : List X) → Each P xs → Each P ys → Each P (xs ++ ys)
each-append P [] ys h k = k
each-append P (x ∷ xs) ys h k = (h.0, each-append P xs ys h.1 k)

pub each-more : {X : Type 0} → (P Q : X → Type 0) → ((x : X) → P x → Q x) → (xs : List X) → Each P xs → Each Q xs
each-more P Q f [] h = tt
each-more P Q f (x ∷ xs) h = (f x h.0, each-more P Q f xs h.1)

pub append-assoc : {A : Type 0} → (xs ys zs : List A) → (xs ++ ys) ++ zs ≡ xs ++ (ys ++ zs)
append-assoc [] ys zs = refl
append-assoc (x ∷ xs) ys zs = ap (λ l. x ∷ l) (append-assoc xs ys zs)

pub append-nil : {A : Type 0} → (xs : List A) → xs ++ [] ≡ xs
append-nil [] = refl
append-nil (x ∷ xs) = ap (λ l. x ∷ l) (append-nil xs)

-- what is found is one of the list, and passes the test
pub record IsFound {X : Type 0} (P : X → Type 0) (test : X → Bool) (x : X) : Type 0 where
  pub holds : P x
  pub passes : test x ≡ true

pub found : {X : Type 0} → (P : X → Type 0) (test : X → Bool) (xs : List X) (x : X) → Each P xs → find test xs ≡ Some x → IsFound P test x
found P test [] x h e = absurd (nothing e)
  where
    nothing : None ≡ Some x → ⊥
    nothing e = cc
found {X} P test (y ∷ ys) x h e = go (test y) refl (λ k. found P test ys x h.1 k) e
  where
    go : (b : Bool) → test y ≡ b → (find test ys ≡ Some x → IsFound P test x) → cond b (Some y) (find test ys) ≡ Some x → IsFound P test x
    go true t rest k = let same : y ≡ x = cc in record { holds = subst P same h.0; passes = subst (λ z. test z ≡ true) same t }
    go false t rest k = rest k
