-- The variables that occur in a term decide what it becomes.
use Rattle.std.proofs.Common.{◌≡◌, ℕ, ◌<◌, ◌≤◌, true, false, inl, inr, refl, ap, arith}
use Rattle.std.proofs.lemmas.Bool.{eqb-true}
use Rattle.au_term.specs.Term.{Term, VarTerm, IntTerm, AtomTerm, Compound, Terms, end, more, var_bound, all_bound}
use Rattle.au_model.specs.Terms.Substitutions.{apply, apply_all, occurs, occurs_in}
use Rattle.au_term.proofs.LogicLemmas.{number_same}
use Rattle.au_model.proofs.ApplyLemmas.{two, either, or_left, or_right}

-- substitutions that agree on the variables of a term make the same of it
mutual
  pub agreed : (f g : ℕ → Term) (t : Term) → ((w : ℕ) → occurs w t ≡ true → f w ≡ g w) → apply f t ≡ apply g t
  agreed f g (VarTerm n) h = h n (number_same n)
  agreed f g (IntTerm z) h = refl
  agreed f g (AtomTerm a) h = refl
  agreed f g (Compound a ts) h = ap (Compound a) (all_agreed f g ts h)

  pub all_agreed : (f g : ℕ → Term) (ts : Terms) → ((w : ℕ) → occurs_in w ts ≡ true → f w ≡ g w) → apply_all f ts ≡ apply_all g ts
  all_agreed f g end h = refl
  all_agreed f g (more t ts) h =
      two (agreed f g t (λ w o. h w (or_left (occurs w t) (occurs_in w ts) o))) (all_agreed f g ts (λ w o. h w (or_right (occurs w t) (occurs_in w ts) o)))

-- and keep it below a number
mutual
  pub kept_below : (f : ℕ → Term) (b : ℕ) (t : Term) → ((w : ℕ) → occurs w t ≡ true → var_bound (f w) ≤ b) → var_bound (apply f t) ≤ b
  kept_below f b (VarTerm n) h = h n (number_same n)
  kept_below f b (IntTerm z) h = omega arith
  kept_below f b (AtomTerm a) h = omega arith
  kept_below f b (Compound a ts) h = all_kept_below f b ts h

  pub all_kept_below : (f : ℕ → Term) (b : ℕ) (ts : Terms) → ((w : ℕ) → occurs_in w ts ≡ true → var_bound (f w) ≤ b) → all_bound (apply_all f ts) ≤ b
  all_kept_below f b end h = omega arith
  all_kept_below f b (more t ts) h =
      omega (arith, kept_below f b t (λ w o. h w (or_left (occurs w t) (occurs_in w ts) o)), all_kept_below f b ts (λ w o. h w (or_right (occurs w t) (occurs_in w ts) o)))

-- nothing occurs in what a term without variables becomes
mutual
  pub none_occurs : (f : ℕ → Term) (x : ℕ) (t : Term) → var_bound t ≡ 0 → occurs x (apply f t) ≡ false
  none_occurs f x (VarTerm n) h = absurd (omega arith)
  none_occurs f x (IntTerm z) h = refl
  none_occurs f x (AtomTerm a) h = refl
  none_occurs f x (Compound a ts) h = none_occurs_in f x ts h

  none_occurs_in : (f : ℕ → Term) (x : ℕ) (ts : Terms) → all_bound ts ≡ 0 → occurs_in x (apply_all f ts) ≡ false
  none_occurs_in f x end h = refl
  none_occurs_in f x (more t ts) h = rw (none_occurs f x t (omega arith), none_occurs_in f x ts (omega arith)) refl

-- a variable that occurs is below the bound
mutual
  pub occurs_below : (w : ℕ) (t : Term) → occurs w t ≡ true → w < var_bound t
  occurs_below w (VarTerm n) o = let same : w ≡ n = eqb-true w n o in omega arith
  occurs_below w (IntTerm z) o = absurd cc
  occurs_below w (AtomTerm a) o = absurd cc
  occurs_below w (Compound a ts) o = all_occurs_below w ts o

  pub all_occurs_below : (w : ℕ) (ts : Terms) → occurs_in w ts ≡ true → w < all_bound ts
  all_occurs_below w end o = absurd cc
  all_occurs_below w (more t ts) o =
      elim (either (occurs w t) (occurs_in w ts) o) [ inl k ↦ omega (arith, occurs_below w t k) | inr k ↦ omega (arith, all_occurs_below w ts k) ]
