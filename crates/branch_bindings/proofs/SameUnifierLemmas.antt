-- A substitution that bindings make is their unifier.
use Rattle.std.proofs.Common.{◌≡◌, ℕ, Option, Some, None, refl, sym, ap, ◌∙◌, arith}
use Rattle.au_term.specs.Term.{Term, VarTerm, IntTerm, AtomTerm, Compound, Terms, end, more}
use Rattle.au_model.specs.Terms.Substitutions.{Substitution, apply, apply_all, value_of}
use Rattle.au_model.specs.Terms.Unifier.{Equations, unifier}
use Rattle.au_model.specs.Terms.MostGeneral.{IsMostGeneral, IsUnifierAnswer, SameValues}
use Rattle.au_model.proofs.ApplyLemmas.{two}
use Rattle.au_model.proofs.UnifierLemmas.{unifier_answers}
use Rattle.au_model.proofs.EquationOrderLemmas.{KeepsOlder, keeps_older}
use Rattle.branch_bindings.specs.BindingEquations.{UnifierIsMade}
use Rattle.branch_bindings.proofs.MadeUnifierLemmas.{is_most_general, stands_for_older}

-- two most general unifiers of the same equations, by which no variable stands for a younger one
module _ (eqs : Equations) (s u : Substitution) (p : IsMostGeneral s eqs) (q : IsMostGeneral u eqs) (s_old : KeepsOlder (Some s)) (u_old : KeepsOlder (Some u)) where
  -- a variable that stands for itself by the one stands for itself by the other
  stays : (v : ℕ) → value_of s v ≡ VarTerm v → value_of u v ≡ VarTerm v
  stays v h = from_term (value_of u v) refl (q.general (value_of s) p.unifies v ∙ h)
    where
      from_term : (t : Term) → value_of u v ≡ t → apply (value_of s) t ≡ VarTerm v → t ≡ VarTerm v
      from_term (VarTerm k) e g = let up = s_old k v g in let down = u_old v k e in ap VarTerm (omega arith)
      from_term (IntTerm z) e g = cc
      from_term (AtomTerm a) e g = cc
      from_term (Compound f ts) e g = cc

  -- and so does a term
  mutual
    term_stays : (t : Term) → apply (value_of s) t ≡ t → apply (value_of u) t ≡ t
    term_stays (VarTerm v) h = stays v h
    term_stays (IntTerm z) h = refl
    term_stays (AtomTerm a) h = refl
    term_stays (Compound f ts) h = ap (Compound f) (terms_stay ts cc)

    terms_stay : (ts : Terms) → apply_all (value_of s) ts ≡ ts → apply_all (value_of u) ts ≡ ts
    terms_stay end h = refl
    terms_stay (more t ts) h = two (term_stays t cc) (terms_stay ts cc)

  same_values : (n : ℕ) → value_of u n ≡ value_of s n
  same_values n = sym (p.general (value_of u) q.unifies n) ∙ term_stays (value_of s n) (p.general (value_of s) p.unifies n)

answer_is : (eqs : Equations) (s : Substitution) (o : Option Substitution) → IsMostGeneral s eqs → KeepsOlder (Some s) → IsUnifierAnswer o eqs → KeepsOlder o → SameValues o (Some s)
answer_is eqs s None p s_old a o_old = a (value_of s) p.unifies
answer_is eqs s (Some u) p s_old a o_old = same_values eqs s u p a s_old o_old

pub unifier_is_made : UnifierIsMade
unifier_is_made s eqs h = answer_is eqs s (unifier eqs) (is_most_general s eqs h) (stands_for_older s eqs h) (unifier_answers eqs) (keeps_older eqs)
