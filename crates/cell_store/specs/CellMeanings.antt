-- The substitution that cells represent.
use Rattle.std.specs.Prelude.{ℕ, zero, suc, List, [], ◌∷◌, length}
use Rattle.au_term.specs.Term.{Term, VarTerm, IntTerm, AtomTerm}
use Rattle.au_term.specs.Shifted.{shifted}
use Rattle.au_model.specs.Terms.Substitutions.{Substitution, apply}
use Rattle.clause_compile.specs.AtomNumbers.{name_at}
use Rattle.clause_compile.specs.Places.{CodeView, AreSound, meaning_in}
use Rattle.clause_compile.specs.declared.place.Place.TheVariants.{Sub}
use Rattle.binding_array.specs.Represented.{variable_cell, AreFalling, Represents}
use Rattle.binding_array.specs.declared.cell.BindingCell.{BindingCell}
use Rattle.binding_array.specs.declared.cell.BindingCell.TheVariants.{Free, Var, Int, Atom, Compound}
use Rattle.cell_store.specs.Values.{AreCells}

-- what a variable stands for by its cell, and by what others stand for
abbrev pub value_by : CodeView → (ℕ → Term) → ℕ → BindingCell → Term
value_by code f v Free = VarTerm v
value_by code f v (Var w) = f w
value_by code f v (Int z) = IntTerm z
value_by code f v (Atom a) = AtomTerm (name_at code.names a)
value_by code f v (Compound at base) = apply f (shifted base (meaning_in code (Sub at)))

-- what a variable stands for by cells that are followed to a depth
abbrev pub value_to : ℕ → CodeView → List BindingCell → ℕ → Term
value_to zero code cells v = VarTerm v
value_to (suc n) code cells v = value_by code (value_to n code cells) v (variable_cell cells v)

-- one more variable, where it is bound
abbrev pub with_cell_value : BindingCell → ℕ → Term → Substitution → Substitution
with_cell_value Free v t s = s
with_cell_value (Var w) v t s = (v, t) ∷ s
with_cell_value (Int z) v t s = (v, t) ∷ s
with_cell_value (Atom a) v t s = (v, t) ∷ s
with_cell_value (Compound at base) v t s = (v, t) ∷ s

-- what the bound variables below a number stand for
abbrev pub values_below : ℕ → List BindingCell → (ℕ → Term) → Substitution
values_below zero cells f = []
values_below (suc n) cells f = with_cell_value (variable_cell cells n) n (f n) (values_below n cells f)

-- what each variable stands for: no way through cells that represent a substitution is longer than there are variables
unfoldable pub substitution_in : CodeView → List BindingCell → Substitution
substitution_in code cells = values_below (length cells) cells (value_to (suc (length cells)) code cells)

-- cells whose values are there, in which chains of variables fall, and that represent a substitution
pub record AreConsistent (code : CodeView) (cells : List BindingCell) : Type 0 where
  pub text : AreSound (length code.names) code.places
  pub falling : AreFalling cells
  pub values : AreCells code cells
  pub represents : Represents code cells (substitution_in code cells)
