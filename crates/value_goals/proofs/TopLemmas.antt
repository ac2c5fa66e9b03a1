-- What a value that is no bound variable says of the term that it stands for.
use Rattle.std.proofs.Common.{◌≡◌, ℕ, ℤ, List, refl, sym, ap, ◌∙◌}
use Rattle.au_term.specs.Term.{Term, VarTerm, IntTerm, AtomTerm, Compound as CompoundTerm, Terms}
use Rattle.clause_compile.specs.AtomNumbers.{name_at}
use Rattle.binding_array.specs.declared.cell.BindingCell.{BindingCell}
use Rattle.binding_array.specs.declared.cell.BindingCell.TheVariants.{Free, Var, Int, Atom, Compound}
use Rattle.cell_store.specs.StoreView.{StoreView, substitution, meaning, text_in, value_term, IsDereferenced}
use Rattle.cell_store.proofs.CellMeaningLemmas.{IsCompound, compound, means_compound}
use Rattle.cell_store.proofs.SubstitutionLemmas.{resolved_compound}

pub variable_told : (st : StoreView) (value : BindingCell) (v : ℕ) → IsDereferenced st value (Var v) → meaning st value ≡ VarTerm v
variable_told st value v d = sym d.same ∙ d.unbound

pub integer_told : (st : StoreView) (value : BindingCell) (z : ℤ) → IsDereferenced st value (Int z) → meaning st value ≡ IntTerm z
integer_told st value z d = sym d.same

pub atom_told : (st : StoreView) (value : BindingCell) (a : ℕ) → IsDereferenced st value (Atom a) → meaning st value ≡ AtomTerm (name_at (text_in st).names a)
atom_told st value a d = sym d.same

-- what depends on the kind of a term alone
pub told : {X : Type 0} (st : StoreView) (p : Term → X) (b : X) (value c : BindingCell) → IsDereferenced st value c → ((v : ℕ) → c ≡ Var v → b ≡ p (VarTerm v)) → ((z : ℤ) → c ≡ Int z → b ≡ p (IntTerm z)) → ((a : ℕ) (name : List ℕ) → c ≡ Atom a → b ≡ p (AtomTerm name))
    → ((at base : ℕ) (f : List ℕ) (ts : Terms) → c ≡ Compound at base → b ≡ p (CompoundTerm f ts)) → b ≡ p (meaning st value)
told st p b value Free d var int atom comp = absurd d.there
told st p b value (Var v) d var int atom comp = var v refl ∙ ap p (sym (variable_told st value v d))
told st p b value (Int z) d var int atom comp = int z refl ∙ ap p (sym (integer_told st value z d))
told st p b value (Atom a) d var int atom comp = atom a (name_at (text_in st).names a) refl ∙ ap p (sym (atom_told st value a d))
told st p b value (Compound at base) d var int atom comp =
    by (meaning st (Compound at base)) (resolved_compound (substitution st) (value_term st (Compound at base)) (means_compound (text_in st) at base d.there.0)) ∙ ap p d.same
  where
    by : (t : Term) → IsCompound t → b ≡ p t
    by t (compound f ts) = comp at base f ts refl
