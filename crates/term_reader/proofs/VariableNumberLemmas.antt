-- The numbers of names.
use Rattle.std.proofs.Common.{◌≡◌, ◌∙◌, ◌<◌, ℕ, suc, Bool, true, false, cond, nat_eq, List, [], ◌∷◌, ◌++◌, Option, Some, None, refl, sym, ap, arith}
use Rattle.std.specs.BTreeMap.{is_at}
use Rattle.std.specs.Cmp.Lexicographic.{pointwise, slice_cmp, same_text, texts_ties}
use Rattle.std.specs.Ordering.{nat_cmp}
use Rattle.au_model.specs.Terms.Named.{NamedVariable}
use Rattle.au_model.specs.Syntax.VariableNumbers.{Variables, number_of, is_anonymous, numbered_name, new_name}

or_number : Option ℕ → Option ℕ → Option ℕ
or_number (Some k) o = Some k
or_number None o = o

number-last : (vs : List NamedVariable) (n q : List ℕ) (k : ℕ) → number_of (vs ++ record { name = n; number = k } ∷ []) q ≡ or_number (number_of vs q) (cond (pointwise nat_eq n q) (Some k) None)
unfolding or_number
number-last [] n q k = refl
number-last (v ∷ vs) n q k = go (pointwise nat_eq v.name q) (number-last vs n q k) where
  go : (b : Bool) → number_of (vs ++ record { name = n; number = k } ∷ []) q ≡ or_number (number_of vs q) (cond (pointwise nat_eq n q) (Some k) None)
      → cond b (Some v.number) (number_of (vs ++ record { name = n; number = k } ∷ []) q) ≡ or_number (cond b (Some v.number) (number_of vs q)) (cond (pointwise nat_eq n q) (Some k) None)
  go true h = refl
  go false h = h

-- a new name after the others
pub more-named : (vs : List NamedVariable) (n : List ℕ) (k : ℕ) → number_of vs n ≡ None → (q : List ℕ)
    → cond (is_at (slice_cmp nat_cmp n) q) (Some k) (number_of vs q) ≡ number_of (vs ++ record { name = n; number = k } ∷ []) q
unfolding or_number
more-named vs n k none q = ap (λ b. cond b (Some k) (number_of vs q)) (sym (texts_ties n q)) ∙ (go (pointwise nat_eq n q) refl ∙ sym (number-last vs n q k)) where
  other : (o : Option ℕ) → o ≡ or_number o None
  other (Some m) = refl
  other None = refl

  go : (b : Bool) → pointwise nat_eq n q ≡ b → cond b (Some k) (number_of vs q) ≡ or_number (number_of vs q) (cond b (Some k) None)
  go true e = sym (ap (λ o. or_number o (Some k)) (ap (number_of vs) (sym (same_text n q (sym e))) ∙ none))
  go false e = other (number_of vs q)

pub numbered-anonymous : (vs : Variables) (n : List ℕ) → is_anonymous n ≡ true → numbered_name vs n ≡ (vs.next, record { named = vs.named; next = suc vs.next })
numbered-anonymous vs n e = rw e

pub numbered-old : (vs : Variables) (n : List ℕ) (k : ℕ) → is_anonymous n ≡ false → number_of vs.named n ≡ Some k → numbered_name vs n ≡ (k, vs)
numbered-old vs n k e f = rw (e, f)

pub numbered-new : (vs : Variables) (n : List ℕ) → is_anonymous n ≡ false → number_of vs.named n ≡ None → numbered_name vs n ≡ (vs.next, new_name vs n)
numbered-new vs n e f = rw (e, f)

pub below-more : (vs : List NamedVariable) (n : List ℕ) (next : ℕ) → ((q : List ℕ) (k : ℕ) → number_of vs q ≡ Some k → k < next)
    → (q : List ℕ) (k : ℕ) → number_of (vs ++ record { name = n; number = next } ∷ []) q ≡ Some k → k < suc next
unfolding or_number
below-more vs n next h q k e = go (number_of vs q) (pointwise nat_eq n q) refl (sym (number-last vs n q next) ∙ e) where
  go : (o : Option ℕ) (b : Bool) → number_of vs q ≡ o → or_number o (cond b (Some next) None) ≡ Some k → k < suc next
  go (Some m) b f g = let same : m ≡ k = cc in let lt = h q m f in omega arith
  go None true f g = let same : next ≡ k = cc in omega arith
  go None false f g = let z : ⊥ = cc in absurd z

no_number : {k : ℕ} → None ≡ Some k → ⊥
no_number e = cc

pub below-none : (n : List ℕ) (k : ℕ) → number_of [] n ≡ Some k → k < 0
below-none n k e = absurd (no_number e)
