-- The bindings of cells as equations.
use Rattle.std.specs.Prelude.{◌≡◌, ℕ, List, Some}
use Rattle.std.specs.List.{Contains}
use Rattle.au_term.specs.Term.{Term, VarTerm}
use Rattle.au_model.specs.Terms.Each.{Each}
use Rattle.au_model.specs.Terms.Substitutions.{Substitution}
use Rattle.au_model.specs.Terms.Unifier.{Equations, unifier}
use Rattle.au_model.specs.Terms.MostGeneral.{SameValues}
use Rattle.clause_compile.specs.Places.{CodeView}
use Rattle.binding_array.specs.Represented.{variable_cell, cell_term, IsBoundCell, AreFalling, Represents}
use Rattle.binding_array.specs.declared.cell.BindingCell.{BindingCell}
use Rattle.cell_store.specs.Values.{AreCells}

-- a variable and what its cell has
abbrev pub cell_equation : CodeView → List BindingCell → ℕ → Term × Term
cell_equation code cells v = (VarTerm v, cell_term code (variable_cell cells v))

-- that of some bound variable
pub record IsCellEquation (code : CodeView) (cells : List BindingCell) (e : Term × Term) : Type 0 where
  pub variable : ℕ
  pub bound : IsBoundCell (variable_cell cells variable)
  pub is : e ≡ cell_equation code cells variable

-- those of all bound variables and no others, in any order
pub record AreBindingsOf (code : CodeView) (cells : List BindingCell) (eqs : Equations) : Type 0 where
  pub each : Each (IsCellEquation code cells) eqs
  pub all : (v : ℕ) → IsBoundCell (variable_cell cells v) → Contains eqs (cell_equation code cells v)

-- what cells represent is the unifier of their bindings
abbrev pub UnifierIsRepresented : Type 0
UnifierIsRepresented = (code : CodeView) (cells : List BindingCell) (s : Substitution) (eqs : Equations)
    → AreFalling cells → AreCells code cells → Represents code cells s → AreBindingsOf code cells eqs → SameValues (unifier eqs) (Some s)
