-- The unifier of bindings and of those that extend it.
use Rattle.std.proofs.Common.{◌≡◌, ◌⊎◌, inl, inr, ℕ, zero, suc, ◌<◌, [], ◌∷◌, ◌++◌, length, slice_index_or, Option, Some, None, refl, sym, ap, ◌∙◌, arith}
use Rattle.std.specs.List.{Contains}
use Rattle.std.proofs.lemmas.List.Elements.{Contains-append_left, Contains-append_right}
use Rattle.au_term.specs.Term.{Term, VarTerm}
use Rattle.au_model.specs.Terms.Each.{Each}
use Rattle.au_model.specs.Terms.Substitutions.{Substitution, apply, value_of, resolve}
use Rattle.au_model.specs.Terms.Unifier.{Equations, unifier}
use Rattle.au_model.specs.Terms.MostGeneral.{Unifies, IsUnifierAnswer, SameValues}
use Rattle.au_model.proofs.ApplyLemmas.{apply-same}
use Rattle.au_model.proofs.EachLemmas.{each-append, each-map, each-more}
use Rattle.au_model.proofs.EquationOrderLemmas.{KeepsOlder, keeps_older}
use Rattle.au_model.proofs.UnifierLemmas.{unifier_answers}
use Rattle.branch_bindings.specs.BindingEquations.{IsBindingBy, HasBinding, AreBindingsBy}
use Rattle.branch_bindings.specs.Extensions.{WrittenBindings, IsWrittenBinding, ExtendsBy}
use Rattle.branch_bindings.specs.ExtensionLaws.{StandsForOlder, IsFinal, written_equations, IsFallingEquation, AreUnifiedBindings}
use Rattle.branch_bindings.specs.ExtensionLaws.{UnifiedBindingsExtend, UnifiersStandForOlder, UnifiersAreFinal}
use Rattle.branch_bindings.proofs.SameUnifierLemmas.{unifier_is_made}
use Rattle.branch_bindings.proofs.ExtensionLemmas.{resolved_further}

same_unify : (f g : ℕ → Term) → ((n : ℕ) → f n ≡ g n) → (eqs : Equations) → Unifies f eqs → Unifies g eqs
same_unify f g h [] u = tt
same_unify f g h (e ∷ eqs) u = (sym (apply-same f g h e.0) ∙ (u.0 ∙ apply-same f g h e.1), same_unify f g h eqs u.1)

answer_unifies : (s : Substitution) (eqs : Equations) (o : Option Substitution) → SameValues o (Some s) → IsUnifierAnswer o eqs → Unifies (value_of s) eqs
answer_unifies s eqs None h a = absurd h
answer_unifies s eqs (Some u) h a = same_unify (value_of u) (value_of s) h eqs a.unifies

pub unified_by : (eqs : Equations) (s : Substitution) → SameValues (unifier eqs) (Some s) → Unifies (value_of s) eqs
unified_by eqs s h = answer_unifies s eqs (unifier eqs) h (unifier_answers eqs)

answer_older : (s : Substitution) (o : Option Substitution) → SameValues o (Some s) → KeepsOlder o → StandsForOlder s
answer_older s None h k = absurd h
answer_older s (Some u) h k = λ v w e. k v w (h v ∙ e)

pub unifiers_stand_for_older : UnifiersStandForOlder
unifiers_stand_for_older eqs s h = answer_older s (unifier eqs) h (keeps_older eqs)

answer_final : (s : Substitution) (eqs : Equations) (o : Option Substitution) → SameValues o (Some s) → IsUnifierAnswer o eqs → Unifies (value_of s) eqs
    → IsFinal s
answer_final s eqs None h a u = absurd h
answer_final s eqs (Some t) h a u = λ v. ap (resolve s) (sym (h v)) ∙ a.general (value_of s) u v

pub unifiers_are_final : UnifiersAreFinal
unifiers_are_final eqs s h = answer_final s eqs (unifier eqs) h (unifier_answers eqs) (unified_by eqs s h)

-- bindings that have a unifier make it
binding_by : (s : Substitution) (e : Term × Term) → IsFallingEquation e → apply (value_of s) e.0 ≡ apply (value_of s) e.1 → IsBindingBy s e
binding_by s e k u = record { variable = k.variable; left_is = k.left_is; stands = sym (ap (resolve s) k.left_is) ∙ u; older = k.older }

bindings_by : (s : Substitution) (eqs : Equations) → Each IsFallingEquation eqs → Unifies (value_of s) eqs → Each (IsBindingBy s) eqs
bindings_by s [] h u = tt
bindings_by s (e ∷ eqs) h u = (binding_by s e h.0 u.0, bindings_by s eqs h.1 u.1)

pub made_by : (eqs : Equations) (s : Substitution) → AreUnifiedBindings eqs s → AreBindingsBy s eqs
made_by eqs s h = record { each = bindings_by s eqs h.each (unified_by eqs s h.unified); free_or_bound = h.free_or_bound }

falling_of : (s : Substitution) (e : Term × Term) → IsBindingBy s e → IsFallingEquation e
falling_of s e b = record { variable = b.variable; left_is = b.left_is; older = b.older }

unified_of : (eqs : Equations) (s : Substitution) → AreBindingsBy s eqs → AreUnifiedBindings eqs s
unified_of eqs s h = record {
  each = each-more (IsBindingBy s) IsFallingEquation (falling_of s) eqs h.each;
  unified = unifier_is_made s eqs h;
  free_or_bound = h.free_or_bound;
}

-- one of the bindings as an equation
pub equation_among : (bs : WrittenBindings) (v : ℕ) (value : Term) → Contains bs (v, value) → Contains (written_equations bs) (VarTerm v, value)
equation_among bs v value c = at_index bs c.0 c.1 c.2
  where
    at_index : (xs : WrittenBindings) (k : ℕ) → k < length xs → slice_index_or xs k (v, value) ≡ (v, value) → Contains (written_equations xs) (VarTerm v, value)
    at_index [] k lt e = absurd (omega arith)
    at_index (x ∷ xs) zero lt e = (0, omega arith, ap (λ b. (VarTerm b.0, b.1)) e)
    at_index (x ∷ xs) (suc k) lt e = Contains-append_right ((VarTerm x.0, x.1) ∷ []) (written_equations xs) (VarTerm v, value) (at_index xs k (omega arith) e)

module _ (s t : Substitution) (n : ℕ) (eqs : Equations) (bs : WrittenBindings) (h : AreBindingsBy s eqs) (k : ExtendsBy s t n bs) where
  still_binding : (e : Term × Term) → IsBindingBy s e → IsBindingBy t e
  still_binding e b = record {
    variable = b.variable;
    left_is = b.left_is;
    stands = k.further b.variable ∙ (ap (resolve t) b.stands ∙ resolved_further s t k.further e.1);
    older = b.older;
  }

  further_binding : (b : ℕ × Term) → IsWrittenBinding s t n b → IsBindingBy t (VarTerm b.0, b.1)
  further_binding b w = record { variable = b.0; left_is = refl; stands = w.stands; older = w.older }

  free_or_bound : (v : ℕ) → (value_of t v ≡ VarTerm v) ⊎ HasBinding (eqs ++ written_equations bs) v
  free_or_bound v = elim (h.free_or_bound v) [
    | inl e ↦ elim (k.others v e) [
      | inl f ↦ inl f
      | inr p ↦ inr (record { value = p.value; is = Contains-append_right eqs (written_equations bs) (VarTerm v, p.value) (equation_among bs v p.value p.is) })
    ]
    | inr p ↦ inr (record { value = p.value; is = Contains-append_left eqs (written_equations bs) (VarTerm v, p.value) p.is })
  ]

  made_further : AreBindingsBy t (eqs ++ written_equations bs)
  made_further = record {
    each = each-append (IsBindingBy t) eqs (written_equations bs) (each-more (IsBindingBy s) (IsBindingBy t) still_binding eqs h.each)
        (each-map (IsWrittenBinding s t n) (IsBindingBy t) (λ b. (VarTerm b.0, b.1)) further_binding bs k.each);
    free_or_bound = free_or_bound;
  }

pub unified_bindings_extend : UnifiedBindingsExtend
unified_bindings_extend s t n eqs bs h k = unified_of (eqs ++ written_equations bs) t (made_further s t n eqs bs (made_by eqs s h) k)
