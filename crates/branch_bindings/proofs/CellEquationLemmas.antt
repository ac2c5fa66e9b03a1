-- The bindings of cells make the substitution that the cells represent.
use Rattle.std.proofs.Common.{◌≡◌, inl, inr, ℕ, ◌<◌, List, [], ◌∷◌, length, sym, ap, ◌∙◌, arith}
use Rattle.au_term.specs.Term.{Term, VarTerm}
use Rattle.au_model.specs.Terms.Each.{Each}
use Rattle.au_model.specs.Terms.Substitutions.{Substitution, resolve}
use Rattle.au_model.specs.Terms.Unifier.{Equations}
use Rattle.clause_compile.specs.Places.{CodeView}
use Rattle.binding_array.specs.Represented.{variable_cell, cell_term, IsFalling, AreFalling, Represents}
use Rattle.binding_array.specs.declared.cell.BindingCell.{BindingCell}
use Rattle.binding_array.specs.declared.cell.BindingCell.TheVariants.{Free, Var, Int, Atom, Compound}
use Rattle.cell_store.specs.Values.{IsValue, AreCells}
use Rattle.cell_store.proofs.CellMeaningLemmas.{means_compound, is_free, is_bound_cell, free_or_bound, free_stands, bound_stands, has_value}
use Rattle.cell_store.proofs.SubstitutionLemmas.{no_variable}
use Rattle.branch_bindings.specs.BindingEquations.{IsBindingBy, AreBindingsBy}
use Rattle.branch_bindings.specs.CellEquations.{IsCellEquation, AreBindingsOf, UnifierIsRepresented}
use Rattle.branch_bindings.proofs.SameUnifierLemmas.{unifier_is_made}

-- a value that is a variable is an older one
pub older_value : (code : CodeView) (n v w : ℕ) (c : BindingCell) → IsValue code n c → IsFalling v c → cell_term code c ≡ VarTerm w → w < v
older_value code n v w Free h falls e = absurd h
older_value code n v w (Var u) h falls e = let same : u ≡ w = cc in omega (arith, falls)
older_value code n v w (Int z) h falls e = absurd cc
older_value code n v w (Atom a) h falls e = absurd cc
older_value code n v w (Compound at base) h falls e = absurd (no_variable (cell_term code (Compound at base)) w (means_compound code at base h.0) e)

module _ (code : CodeView) (cells : List BindingCell) (s : Substitution) (falling : AreFalling cells) (values : AreCells code cells)
    (r : Represents code cells s) where
  is_binding : (e : Term × Term) → IsCellEquation code cells e → IsBindingBy s e
  is_binding e h = record {
    variable = h.variable;
    left_is = ap (λ q. q.0) h.is;
    stands = bound_stands code s h.variable cells r h.bound ∙ sym (ap (λ q. resolve s q.1) h.is);
    older = λ w k. older_value code (length cells) h.variable w (variable_cell cells h.variable)
        (has_value code cells s falling values r h.variable h.bound) (falling h.variable) (sym (ap (λ q. q.1) h.is) ∙ k);
  }

  all_bindings : (eqs : Equations) → Each (IsCellEquation code cells) eqs → Each (IsBindingBy s) eqs
  all_bindings [] h = tt
  all_bindings (e ∷ eqs) h = (is_binding e h.0, all_bindings eqs h.1)

  made_of_cells : (eqs : Equations) → AreBindingsOf code cells eqs → AreBindingsBy s eqs
  made_of_cells eqs h = record {
    each = all_bindings eqs h.each;
    free_or_bound = λ v. elim (free_or_bound (variable_cell cells v)) [
      | is_free e ↦ inl (free_stands code s v cells r e)
      | is_bound_cell b ↦ inr (record { value = cell_term code (variable_cell cells v); is = h.all v b })
    ];
  }

pub unifier_is_represented : UnifierIsRepresented
unifier_is_represented code cells s eqs falling values r h = unifier_is_made s eqs (made_of_cells code cells s falling values r eqs h)
