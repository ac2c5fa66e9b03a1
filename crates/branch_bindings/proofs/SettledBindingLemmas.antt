-- Bindings each of which binds another variable: a variable that none of them binds is free by their unifier.
use Rattle.std.proofs.Common.{◌≡◌, ◌⊎◌, inl, inr, ℕ, zero, suc, ◌<◌, ◌≤◌, Bool, true, false, cond, ◌==◌, nat_lt, [], ◌∷◌, length, Option, Some, None, refl}
use Rattle.std.proofs.Common.{sym, ap, ◌∙◌, arith}
use Rattle.std.specs.Option.{option_map}
use Rattle.std.proofs.lemmas.Bool.{eqb-true}
use Rattle.std.proofs.lemmas.Bool.Decides.{nat_tests}
use Rattle.std.proofs.lemmas.List.{length-map}
use Rattle.std.proofs.lemmas.List.Elements.{Contains-append_right}
use Rattle.au_term.specs.Term.{Term, VarTerm, IntTerm, AtomTerm, Compound}
use Rattle.au_model.specs.Terms.Each.{Each}
use Rattle.au_model.specs.Terms.Substitutions.{Substitution, apply, value_of, resolve, only, occurs}
use Rattle.au_model.specs.Terms.Unifier.{Equations, Dropped, Clash, Replaced, rule, by_rule, replace, bound, unifier}
use Rattle.au_model.specs.Terms.MostGeneral.{SameValues}
use Rattle.au_model.proofs.EachLemmas.{each-more}
use Rattle.au_model.proofs.UnifierLemmas.{unifier-first, unifier_goes}
use Rattle.branch_bindings.specs.BindingEquations.{HasBinding}
use Rattle.branch_bindings.specs.ExtensionLaws.{IsFallingEquation, BindApart, SettledAreUnified}

-- an equation that binds another variable
abbrev BindsOther : ℕ → Term × Term → Type 0
BindsOther v e = e.0 ≡ VarTerm v → ⊥

-- with a variable replaced
abbrev replaced : ℕ → Term → Term × Term → Term × Term
replaced v t e = (apply (only v t) e.0, apply (only v t) e.1)

module _ (v : ℕ) (t : Term) (falls : (w : ℕ) → t ≡ VarTerm w → w < v) where
  kept_left : (e : Term × Term) → IsFallingEquation e → BindsOther v e → apply (only v t) e.0 ≡ e.0
  kept_left e k apart = ap (apply (only v t)) k.left_is ∙ (by_test (v == k.variable) refl ∙ sym k.left_is)
    where
      by_test : (b : Bool) → (v == k.variable) ≡ b → cond b t (VarTerm k.variable) ≡ VarTerm k.variable
      by_test true q = absurd (apart (k.left_is ∙ ap VarTerm (sym (eqb-true v k.variable q))))
      by_test false q = refl

  right_falls : (n : ℕ) (u : Term) → ((x : ℕ) → u ≡ VarTerm x → x < n) → (w : ℕ) → apply (only v t) u ≡ VarTerm w → w < n
  right_falls n (VarTerm x) older w e = by_test (v == x) refl e
    where
      by_test : (b : Bool) → (v == x) ≡ b → cond b t (VarTerm x) ≡ VarTerm w → w < n
      by_test true q r = let same : v ≡ x = eqb-true v x q in let lt = falls w r in omega (arith, older x refl)
      by_test false q r = let same : x ≡ w = cc in omega (arith, older x refl)
  right_falls n (IntTerm z) older w e = absurd cc
  right_falls n (AtomTerm a) older w e = absurd cc
  right_falls n (Compound f ts) older w e = absurd cc

  still_falls : (e : Term × Term) → IsFallingEquation e → BindsOther v e → IsFallingEquation (replaced v t e)
  still_falls e k apart = record { variable = k.variable; left_is = kept_left e k apart ∙ k.left_is; older = right_falls k.variable e.1 k.older }

  all_fall : (eqs : Equations) → Each IsFallingEquation eqs → Each (BindsOther v) eqs → Each IsFallingEquation (replace v t eqs)
  all_fall [] h k = tt
  all_fall (e ∷ eqs) h k = (still_falls e h.0 k.0, all_fall eqs h.1 k.1)

  others_kept : (a b : Term) → a ≡ b → (eqs : Equations) → Each IsFallingEquation eqs → Each (BindsOther v) eqs → Each (λ d. d.0 ≡ a → ⊥) eqs
      → Each (λ d. d.0 ≡ b → ⊥) (replace v t eqs)
  others_kept a b same [] h k r = tt
  others_kept a b same (e ∷ eqs) h k r = ((λ q. r.0 (sym (kept_left e h.0 k.0) ∙ (q ∙ sym same))), others_kept a b same eqs h.1 k.1 r.1)

  still_apart : (eqs : Equations) → Each IsFallingEquation eqs → Each (BindsOther v) eqs → BindApart eqs → BindApart (replace v t eqs)
  still_apart [] h k r = tt
  still_apart (e ∷ eqs) h k r = (others_kept e.0 (apply (only v t) e.0) (sym (kept_left e h.0 k.0)) eqs h.1 k.1 r.0, still_apart eqs h.1 k.1 r.1)

  -- the rule of such an equation
  its_rule : (u : Term) → t ≡ u → (rule (VarTerm v) u ≡ Clash) ⊎ (rule (VarTerm v) u ≡ Replaced v u)
  its_rule (VarTerm w) e = inr (by_same (v == w) refl)
    where
      lt : w < v
      lt = falls w e

      by_less : (b : Bool) → nat_lt v w ≡ b → cond b (Replaced w (VarTerm v)) (Replaced v (VarTerm w)) ≡ Replaced v (VarTerm w)
      by_less true q = let more : v < w = grind (arith, nat_tests) in absurd (omega (arith, lt))
      by_less false q = refl

      by_same : (b : Bool) → (v == w) ≡ b → cond b Dropped (cond (nat_lt v w) (Replaced w (VarTerm v)) (Replaced v (VarTerm w))) ≡ Replaced v (VarTerm w)
      by_same true q = let same : v ≡ w = eqb-true v w q in absurd (omega (arith, lt))
      by_same false q = by_less (nat_lt v w) refl
  its_rule (IntTerm z) e = inr refl
  its_rule (AtomTerm a) e = inr refl
  its_rule (Compound f ts) e = by_test (occurs v (Compound f ts))
    where
      by_test : (b : Bool) → (cond b Clash (Replaced v (Compound f ts)) ≡ Clash) ⊎ (cond b Clash (Replaced v (Compound f ts)) ≡ Replaced v (Compound f ts))
      by_test true = inl refl
      by_test false = inr refl

-- the values of an answer for more bindings
in_front : (x v : ℕ) (t : Term) (o : Option Substitution) (s : Substitution) → (x ≡ v → ⊥) → option_map (bound x t) o ≡ Some s
    → ((u : Substitution) → o ≡ Some u → value_of u v ≡ VarTerm v)
    → value_of s v ≡ VarTerm v
in_front x v t None s apart e h = absurd cc
in_front x v t (Some u) s apart e h =
    let same : bound x t u ≡ s = cc in
    ap (λ r. value_of r v) (sym same) ∙ by_test (x == v) refl
  where
    by_test : (b : Bool) → (x == v) ≡ b → cond b (resolve u t) (value_of u v) ≡ VarTerm v
    by_test true q = absurd (apart (eqb-true x v q))
    by_test false q = h u refl

-- for lists up to a length
abbrev ForShorter : ℕ → ℕ → Type 0
ForShorter k v = (eqs : Equations) → length eqs ≤ k → Each IsFallingEquation eqs → BindApart eqs → (s : Substitution) → unifier eqs ≡ Some s
    → Each (BindsOther v) eqs → value_of s v ≡ VarTerm v

unbound_free : (k : ℕ) (eqs : Equations) → length eqs ≤ k → Each IsFallingEquation eqs → BindApart eqs → (s : Substitution) → unifier eqs ≡ Some s
    → (v : ℕ) → Each (BindsOther v) eqs
    → value_of s v ≡ VarTerm v
unbound_free k [] le h r s e v o = let same : [] ≡ s = cc (unifier_goes.none_left) in ap (λ u. value_of u v) (sym same)
unbound_free zero (d ∷ eqs) le h r s e v o = absurd (omega arith)
unbound_free (suc k) (d ∷ eqs) le h r s e v o = by_its_rule
    (λ es less falling apart u q left. unbound_free k es less falling apart u q v left) (its_rule x d.1 h.0.older d.1 refl)
  where
    x : ℕ
    x = h.0.variable

    others : Each (BindsOther x) eqs
    others = each-more (λ c. c.0 ≡ d.0 → ⊥) (BindsOther x) (λ c apart q. apart (q ∙ sym h.0.left_is)) eqs r.0

    first : unifier (d ∷ eqs) ≡ by_rule (rule (VarTerm x) d.1) eqs unifier
    first = unifier-first d.0 d.1 eqs ∙ ap (λ a. by_rule (rule a d.1) eqs unifier) h.0.left_is

    rest : ForShorter k v → (u : Substitution) → unifier (replace x d.1 eqs) ≡ Some u → value_of u v ≡ VarTerm v
    rest shorter u q = shorter (replace x d.1 eqs) (omega (arith, length-map eqs (replaced x d.1), le)) (all_fall x d.1 h.0.older eqs h.1 others)
        (still_apart x d.1 h.0.older eqs h.1 others r.1) u q (others_kept x d.1 h.0.older (VarTerm v) (VarTerm v) refl eqs h.1 others o.1)

    by_its_rule : ForShorter k v → (rule (VarTerm x) d.1 ≡ Clash) ⊎ (rule (VarTerm x) d.1 ≡ Replaced x d.1) → value_of s v ≡ VarTerm v
    by_its_rule shorter (inl q) = let none : None ≡ Some s = sym (ap (λ a. by_rule a eqs unifier) q) ∙ (sym first ∙ e) in absurd cc
    by_its_rule shorter (inr q) = in_front x v d.1 (unifier (replace x d.1 eqs)) s
        (λ same. o.0 (h.0.left_is ∙ ap VarTerm same)) (sym (ap (λ a. by_rule a eqs unifier) q) ∙ (sym first ∙ e)) (rest shorter)

has_or_not : (v : ℕ) (eqs : Equations) → Each IsFallingEquation eqs → HasBinding eqs v ⊎ Each (BindsOther v) eqs
has_or_not v [] h = inr tt
has_or_not v (e ∷ eqs) h = by_test (has_or_not v eqs h.1) (h.0.variable == v) refl
  where
    by_test : HasBinding eqs v ⊎ Each (BindsOther v) eqs → (b : Bool) → (h.0.variable == v) ≡ b → HasBinding (e ∷ eqs) v ⊎ Each (BindsOther v) (e ∷ eqs)
    by_test r true q = inl (record { value = e.1; is = (0, omega arith, ap (λ a. (a, e.1)) (h.0.left_is ∙ ap VarTerm (eqb-true h.0.variable v q))) })
    by_test (inl p) false q = inl (record { value = p.value; is = Contains-append_right (e ∷ []) eqs (VarTerm v, p.value) p.is })
    by_test (inr p) false q = inr ((λ z. absurd (other z q)), p)
      where
        other : e.0 ≡ VarTerm v → (h.0.variable == v) ≡ false → ⊥
        other z f = let both : VarTerm h.0.variable ≡ VarTerm v = sym h.0.left_is ∙ z in let same : h.0.variable ≡ v = cc in grind (arith, nat_tests)

answer_frees : (eqs : Equations) (s : Substitution) (v : ℕ) (o : Option Substitution) → unifier eqs ≡ o → SameValues o (Some s)
    → Each IsFallingEquation eqs → BindApart eqs → Each (BindsOther v) eqs → value_of s v ≡ VarTerm v
answer_frees eqs s v None e h k r p = absurd h
answer_frees eqs s v (Some u) e h k r p = sym (h v) ∙ unbound_free (length eqs) eqs (omega arith) k r u e v p

pub settled_are_unified : SettledAreUnified
settled_are_unified n eqs s h = record {
  each = h.each;
  unified = h.unified;
  free_or_bound = λ v. elim (has_or_not v eqs h.each) [
    | inl p ↦ inr p
    | inr p ↦ inl (answer_frees eqs s v (unifier eqs) refl h.unified h.each h.apart p)
  ];
}
