-- Settled bindings stay settled with those that extend their unifier.
use Rattle.std.proofs.Common.{◌≡◌, ℕ, ◌≤◌, List, [], ◌∷◌, ◌++◌, refl, sym, ◌∙◌, subst, arith}
use Rattle.std.specs.List.{Contains}
use Rattle.std.proofs.lemmas.List.Elements.{Contains-append_right}
use Rattle.au_term.specs.Term.{Term, VarTerm}
use Rattle.au_model.specs.Terms.Each.{Each}
use Rattle.au_model.specs.Terms.Substitutions.{Substitution, value_of}
use Rattle.au_model.specs.Terms.Unifier.{Equations, equations_bound}
use Rattle.au_model.proofs.EachLemmas.{each-append, each-map}
use Rattle.branch_bindings.specs.BindingEquations.{IsBindingBy}
use Rattle.branch_bindings.specs.Extensions.{WrittenBindings, IsWrittenBinding, BindOnce, ExtendsBy}
use Rattle.branch_bindings.specs.ExtensionLaws.{StandsForOlder, written_equations, IsFallingEquation, BindApart, SettledBindingsExtend}
use Rattle.branch_bindings.proofs.ExtensionLemmas.{from_older}
use Rattle.branch_bindings.proofs.ExtendedUnifierLemmas.{made_by, unified_bindings_extend, unifiers_stand_for_older}
use Rattle.branch_bindings.proofs.SettledBindingLemmas.{settled_are_unified}

each_contained : {X : Type 0} (P : X → Type 0) (xs : List X) → ((x : X) → Contains xs x → P x) → Each P xs
each_contained P [] h = tt
each_contained P (x ∷ xs) h = (h x (0, omega arith, refl), each_contained P xs (λ y c. h y (Contains-append_right (x ∷ []) xs y c)))

written_apart : (bs : WrittenBindings) → BindOnce bs → BindApart (written_equations bs)
written_apart [] h = tt
written_apart (b ∷ bs) h = (
  each-map (λ c. c.0 ≡ b.0 → ⊥) (λ d. d.0 ≡ VarTerm b.0 → ⊥) (λ c. (VarTerm c.0, c.1)) (λ c other q. other cc) bs
      (each_contained (λ c. c.0 ≡ b.0 → ⊥) bs (λ c k q. h.0 c.1 (subst (λ v. Contains bs (v, c.1)) q k))),
  written_apart bs h.1,
)

-- a variable that is bound is not free
is_not_free : (s : Substitution) (e : Term × Term) → StandsForOlder s → IsBindingBy s e → (v : ℕ) → VarTerm v ≡ e.0 → value_of s v ≡ VarTerm v → ⊥
is_not_free s e older b v q f =
    let both : VarTerm v ≡ VarTerm b.variable = q ∙ b.left_is in
    let same : v ≡ b.variable = cc in
    let here : value_of s b.variable ≡ VarTerm b.variable = subst (λ w. value_of s w ≡ VarTerm w) same f in
    let lt = from_older s b.variable b.variable e.1 (λ u l. older u) b.older (sym b.stands ∙ here) in
    omega arith

bounds_both : (n : ℕ) (xs ys : Equations) → equations_bound xs ≤ n → equations_bound ys ≤ n → equations_bound (xs ++ ys) ≤ n
bounds_both n [] ys h k = k
bounds_both n (x ∷ xs) ys h k = let rest = bounds_both n xs ys (omega (arith, h)) k in omega (arith, h, rest)

module _ (s t : Substitution) (m : ℕ) where
  bounds_written : (bs : WrittenBindings) → Each (IsWrittenBinding s t m) bs → equations_bound (written_equations bs) ≤ m
  bounds_written [] h = omega arith
  bounds_written (b ∷ bs) h = let rest = bounds_written bs h.1 in let there = h.0.there in let below = h.0.below in omega (arith, there, below, rest)

module _ (s t : Substitution) (m : ℕ) (bs : WrittenBindings) (older : StandsForOlder s) (k : ExtendsBy s t m bs) where
  both_apart : (xs : Equations) → Each (IsBindingBy s) xs → BindApart xs → BindApart (xs ++ written_equations bs)
  both_apart [] b h = written_apart bs k.once
  both_apart (x ∷ xs) b h = (
    each-append (λ d. d.0 ≡ x.0 → ⊥) xs (written_equations bs) h.0
        (each-map (IsWrittenBinding s t m) (λ d. d.0 ≡ x.0 → ⊥) (λ c. (VarTerm c.0, c.1)) (λ c w q. is_not_free s x older b.0 c.0 q w.free) bs k.each),
    both_apart xs b.1 h.1,
  )

pub settled_bindings_extend : SettledBindingsExtend
settled_bindings_extend s t n m eqs bs h k le =
    let unified = settled_are_unified n eqs s h in
    record {
      each = each-append IsFallingEquation eqs (written_equations bs) h.each
          (each-map (IsWrittenBinding s t m) IsFallingEquation (λ c. (VarTerm c.0, c.1))
          (λ c w. record { variable = c.0; left_is = refl; older = w.older }) bs k.each);
      apart = both_apart s t m bs (unifiers_stand_for_older eqs s h.unified) k eqs (made_by eqs s unified).each h.apart;
      below = bounds_both m eqs (written_equations bs) (omega (arith, h.below)) (bounds_written s t m bs k.each);
      unified = (unified_bindings_extend s t m eqs bs unified k).unified;
    }
