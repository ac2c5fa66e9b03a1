-- Substitutions applied one after another.
use Rattle.std.proofs.Common.{◌≡◌, ℕ, Bool, true, false, ◌||◌, cond, ◌∷◌, ◌==◌, refl, sym, ap, ◌∙◌, ◌⊎◌, inl, inr, ◌≤◌, arith}
use Rattle.std.proofs.lemmas.Bool.{eqb-true}
use Rattle.au_term.specs.Term.{Term, VarTerm, IntTerm, AtomTerm, Compound, Terms, end, more}
use Rattle.au_model.specs.Terms.Substitutions.{Substitution, apply, apply_all, value_of, resolve, only, occurs, occurs_in}
use Rattle.au_model.specs.Terms.Unifier.{size, size_all}
use Rattle.au_term.proofs.LogicLemmas.{neither}

pub two : {a b : Term} {s t : Terms} → a ≡ b → s ≡ t → more a s ≡ more b t
two p q = cc

-- substitutions that agree give the same
mutual
  pub apply-same : (f g : ℕ → Term) → ((n : ℕ) → f n ≡ g n) → (t : Term) → apply f t ≡ apply g t
  apply-same f g h (VarTerm n) = h n
  apply-same f g h (IntTerm z) = refl
  apply-same f g h (AtomTerm a) = refl
  apply-same f g h (Compound name ts) = ap (Compound name) (apply_all-same f g h ts)

  pub apply_all-same : (f g : ℕ → Term) → ((n : ℕ) → f n ≡ g n) → (ts : Terms) → apply_all f ts ≡ apply_all g ts
  apply_all-same f g h end = refl
  apply_all-same f g h (more t ts) = two (apply-same f g h t) (apply_all-same f g h ts)

-- one after the other is one
mutual
  pub apply-apply : (f g : ℕ → Term) (t : Term) → apply f (apply g t) ≡ apply (λ n. apply f (g n)) t
  apply-apply f g (VarTerm n) = refl
  apply-apply f g (IntTerm z) = refl
  apply-apply f g (AtomTerm a) = refl
  apply-apply f g (Compound name ts) = ap (Compound name) (apply_all-apply f g ts)

  pub apply_all-apply : (f g : ℕ → Term) (ts : Terms) → apply_all f (apply_all g ts) ≡ apply_all (λ n. apply f (g n)) ts
  apply_all-apply f g end = refl
  apply_all-apply f g (more t ts) = two (apply-apply f g t) (apply_all-apply f g ts)

-- a variable that does not occur is not replaced
mutual
  pub apply-only_absent : (x : ℕ) (u t : Term) → occurs x t ≡ false → apply (only x u) t ≡ t
  apply-only_absent x u (VarTerm n) h = rw h
  apply-only_absent x u (IntTerm z) h = refl
  apply-only_absent x u (AtomTerm a) h = refl
  apply-only_absent x u (Compound name ts) h = ap (Compound name) (apply_all-only_absent x u ts h)

  pub apply_all-only_absent : (x : ℕ) (u : Term) (ts : Terms) → occurs_in x ts ≡ false → apply_all (only x u) ts ≡ ts
  apply_all-only_absent x u end h = refl
  apply_all-only_absent x u (more t ts) h = two (apply-only_absent x u t (neither _ _ h).0) (apply_all-only_absent x u ts (neither _ _ h).1)

-- where x stands for what u becomes, it may be replaced by u first
pub only_first : (f : ℕ → Term) (x : ℕ) (u : Term) → f x ≡ apply f u → (n : ℕ) → apply f (only x u n) ≡ f n
only_first f x u h n = go (x == n) refl
  where
    go : (b : Bool) → (x == n) ≡ b → apply f (cond b u (VarTerm n)) ≡ f n
    go true e = let same : x ≡ n = eqb-true x n e in sym h ∙ ap f same
    go false e = refl

pub after_only : (f : ℕ → Term) (x : ℕ) (u : Term) → f x ≡ apply f u → (t : Term) → apply f (apply (only x u) t) ≡ apply f t
after_only f x u h t = apply-apply f (only x u) t ∙ apply-same _ _ (only_first f x u h) t

-- a map with one more variable
pub value_of-bound : (s : Substitution) (x : ℕ) (u : Term) (n : ℕ) → value_of ((x, resolve s u) ∷ s) n ≡ apply (value_of s) (only x u n)
value_of-bound s x u n = go (x == n)
  where
    go : (b : Bool) → cond b (resolve s u) (value_of s n) ≡ apply (value_of s) (cond b u (VarTerm n))
    go true = refl
    go false = refl

pub or_left : (a b : Bool) → a ≡ true → (a || b) ≡ true
or_left true b h = refl
or_left false b h = cc

pub or_right : (a b : Bool) → b ≡ true → (a || b) ≡ true
or_right true b h = refl
or_right false b h = h

pub either : (a b : Bool) → (a || b) ≡ true → (a ≡ true) ⊎ (b ≡ true)
either true b h = inl refl
either false b h = inr h

-- what a variable stands for is no larger than what a term becomes in which it occurs
mutual
  pub size-occurs : (f : ℕ → Term) (x : ℕ) (t : Term) → occurs x t ≡ true → size (f x) ≤ size (apply f t)
  size-occurs f x (VarTerm n) h = let e = ap (λ m. size (f m)) (eqb-true x n h) in omega arith
  size-occurs f x (IntTerm z) h = cc
  size-occurs f x (AtomTerm a) h = cc
  size-occurs f x (Compound name ts) h = let k = size_all-occurs f x ts h in omega arith

  pub size_all-occurs : (f : ℕ → Term) (x : ℕ) (ts : Terms) → occurs_in x ts ≡ true → size (f x) ≤ size_all (apply_all f ts)
  size_all-occurs f x end h = cc
  size_all-occurs f x (more t ts) h =
      elim (either (occurs x t) (occurs_in x ts) h) [ inl k ↦ omega (arith, size-occurs f x t k) | inr k ↦ omega (arith, size_all-occurs f x ts k) ]
