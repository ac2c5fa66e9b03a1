-- A substitution that bindings make is a most general unifier of them.
use Rattle.std.proofs.Common.{◌≡◌, ◌⊎◌, inl, inr, ℕ, zero, suc, ◌<◌, ◌≤◌, List, [], ◌∷◌, length, slice_index_or, true, Some, refl, sym, ap, ◌∙◌, subst, arith}
use Rattle.std.specs.List.{Contains}
use Rattle.std.proofs.lemmas.Bool.{eqb-true}
use Rattle.au_term.specs.Term.{Term, VarTerm, IntTerm, AtomTerm, Compound}
use Rattle.au_term.proofs.LogicLemmas.{number_same}
use Rattle.au_model.specs.Terms.Each.{Each}
use Rattle.au_model.specs.Terms.Substitutions.{Substitution, apply, value_of, resolve, occurs}
use Rattle.au_model.specs.Terms.Unifier.{Equations, size}
use Rattle.au_model.specs.Terms.MostGeneral.{Unifies, IsMostGeneral}
use Rattle.au_model.proofs.ApplyLemmas.{apply-apply, size_all-occurs}
use Rattle.au_model.proofs.EquationOrderLemmas.{KeepsOlder}
use Rattle.cell_store.proofs.OccurrenceLemmas.{agreed}
use Rattle.branch_bindings.specs.BindingEquations.{IsBindingBy, HasBinding, AreBindingsBy}

-- what holds of each holds of a member
each_at : {X : Type 0} (P : X → Type 0) (xs : List X) (x : X) (k : ℕ) → Each P xs → k < length xs → slice_index_or xs k x ≡ x → P x
each_at P [] x k h lt is = absurd (omega arith)
each_at P (y ∷ xs) x zero h lt is = subst P is h.0
each_at P (y ∷ xs) x (suc k) h lt is = each_at P xs x k h.1 (omega arith) is

pub each_of : {X : Type 0} (P : X → Type 0) (xs : List X) (x : X) → Each P xs → Contains xs x → P x
each_of P xs x h c = each_at P xs x c.0 h c.1 c.2

each_unified : (g : ℕ → Term) (eqs : Equations) → Unifies g eqs → Each (λ e. apply g e.0 ≡ apply g e.1) eqs
each_unified g [] h = tt
each_unified g (e ∷ eqs) h = (h.0, each_unified g eqs h.1)

unified_each : (s : Substitution) (eqs : Equations) → Each (IsBindingBy s) eqs → Unifies (value_of s) eqs
unified_each s [] h = tt
unified_each s (e ∷ eqs) h = (ap (resolve s) h.0.left_is ∙ h.0.stands, unified_each s eqs h.1)

-- w stands for less than v, or for as much and is older
abbrev pub ComesBefore : Substitution → ℕ → ℕ → Type 0
ComesBefore s w v = (size (value_of s w) < size (value_of s v)) ⊎ ((size (value_of s w) ≤ size (value_of s v)) × (w < v))

-- as each variable of what v is bound to
pub inside_before : (s : Substitution) (v w : ℕ) (t : Term) → value_of s v ≡ resolve s t → ((u : ℕ) → t ≡ VarTerm u → u < v) → occurs w t ≡ true
    → ComesBefore s w v
inside_before s v w (VarTerm u) e older o =
    let same : w ≡ u = eqb-true w u o in
    let as_much : size (value_of s w) ≡ size (value_of s v) = ap (λ n. size (value_of s n)) same ∙ sym (ap size e) in
    inr (omega arith, omega (arith, older u refl))
inside_before s v w (IntTerm z) e older o = absurd cc
inside_before s v w (AtomTerm a) e older o = absurd cc
inside_before s v w (Compound f ts) e older o = inl (omega (arith, ap size e, size_all-occurs (value_of s) w ts o))

-- what holds of a variable where it holds of those that come before it holds of all
module _ (s : Substitution) (P : ℕ → Type 0) (step : (v : ℕ) → ((w : ℕ) → ComesBefore s w v → P w) → P v) where
  of_size : (m : ℕ) → ((w : ℕ) → size (value_of s w) < m → P w) → (k v : ℕ) → size (value_of s v) ≤ m → v < k → P v
  of_size m less zero v le lt = absurd (omega arith)
  of_size m less (suc k) v le lt = step v
      (λ w b. elim b [ inl h ↦ less w (omega arith) | inr h ↦ of_size m less k w (omega (arith, h.0)) (omega (arith, h.1)) ])

  to_size : (m v : ℕ) → size (value_of s v) < m → P v
  to_size zero v lt = absurd (omega arith)
  to_size (suc m) v lt = of_size m (to_size m) (suc v) v (omega arith) (omega arith)

  pub by_size : (v : ℕ) → P v
  by_size v = to_size (suc (size (value_of s v))) v (omega arith)

module _ (s : Substitution) (eqs : Equations) (h : AreBindingsBy s eqs) where
  binding_of : (v : ℕ) (b : HasBinding eqs v) → IsBindingBy s (VarTerm v, b.value)
  binding_of v b = each_of (IsBindingBy s) eqs (VarTerm v, b.value) h.each b.is

  same_variable : (v : ℕ) (b : HasBinding eqs v) → (binding_of v b).variable ≡ v
  same_variable v b = let e = (binding_of v b).left_is in cc

  stands_for : (v : ℕ) (b : HasBinding eqs v) → value_of s v ≡ resolve s b.value
  stands_for v b = sym (ap (value_of s) (same_variable v b)) ∙ (binding_of v b).stands

  falls_to : (v : ℕ) (b : HasBinding eqs v) (u : ℕ) → b.value ≡ VarTerm u → u < v
  falls_to v b u e = omega (arith, (binding_of v b).older u e, same_variable v b)

  -- what holds of a bound variable where it holds of those of its value
  by_bindings : (P : ℕ → Type 0) → ((v : ℕ) → value_of s v ≡ VarTerm v → P v)
      → ((v : ℕ) (b : HasBinding eqs v) → ((w : ℕ) → occurs w b.value ≡ true → P w) → P v) → (v : ℕ) → P v
  by_bindings P free bound = by_size s P (λ v before. elim (h.free_or_bound v) [
    | inl e ↦ free v e
    | inr b ↦ bound v b (λ w o. before w (inside_before s v w b.value (stands_for v b) (falls_to v b) o))
  ])

  sides_same : (g : ℕ → Term) → Unifies g eqs → (v : ℕ) (b : HasBinding eqs v) → g v ≡ apply g b.value
  sides_same g u v b = each_of (λ e. apply g e.0 ≡ apply g e.1) eqs (VarTerm v, b.value) (each_unified g eqs u) b.is

  -- each other unifier goes through it
  goes_through : (g : ℕ → Term) → Unifies g eqs → (v : ℕ) → apply g (value_of s v) ≡ g v
  goes_through g u = by_bindings (λ v. apply g (value_of s v) ≡ g v)
      (λ v e. ap (apply g) e)
      (λ v b before.
      let through : apply (λ w. apply g (value_of s w)) b.value ≡ apply g b.value = agreed (λ w. apply g (value_of s w)) g b.value before in
      ap (apply g) (stands_for v b) ∙ (apply-apply g (value_of s) b.value ∙ (through ∙ sym (sides_same g u v b))))

  pub is_most_general : IsMostGeneral s eqs
  is_most_general = record { unifies = unified_each s eqs h.each; general = goes_through }

  -- no variable stands for a younger one
  through_value : (v m : ℕ) (t : Term) → ((u : ℕ) → t ≡ VarTerm u → u < v)
      → ((w : ℕ) → occurs w t ≡ true → (k : ℕ) → value_of s w ≡ VarTerm k → k ≤ w) → resolve s t ≡ VarTerm m → m ≤ v
  through_value v m (VarTerm u) falls older e = omega (arith, older u (number_same u) m e, falls u refl)
  through_value v m (IntTerm z) falls older e = absurd cc
  through_value v m (AtomTerm a) falls older e = absurd cc
  through_value v m (Compound f ts) falls older e = absurd cc

  itself : (v m : ℕ) → VarTerm v ≡ VarTerm m → m ≤ v
  itself v m e = let same : v ≡ m = cc in omega arith

  pub stands_for_older : KeepsOlder (Some s)
  stands_for_older = by_bindings (λ v. (m : ℕ) → value_of s v ≡ VarTerm m → m ≤ v)
      (λ v free m e. itself v m (sym free ∙ e))
      (λ v b older m e. through_value v m b.value (falls_to v b) older (sym (stands_for v b) ∙ e))
