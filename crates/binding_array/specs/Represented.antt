-- What the cells of variables stand for.
use Rattle.std.specs.Prelude.{◌≡◌, ℕ, ◌<◌, false, List, length, get_or, slice_set}
use Rattle.au_term.specs.Term.{Term, VarTerm, IntTerm, AtomTerm}
use Rattle.au_term.specs.Shifted.{shifted}
use Rattle.au_model.specs.Terms.Substitutions.{Substitution, apply, value_of, resolve, only, occurs}
use Rattle.clause_compile.specs.AtomNumbers.{name_at}
use Rattle.clause_compile.specs.Places.{CodeView, meaning_in}
use Rattle.clause_compile.specs.declared.place.Place.TheVariants.{Sub}
use Rattle.binding_array.specs.declared.cell.BindingCell.{BindingCell}
use Rattle.binding_array.specs.declared.cell.BindingCell.TheVariants.{Free, Var, Int, Atom, Compound}

-- the cell of a variable
abbrev pub variable_cell : List BindingCell → ℕ → BindingCell
variable_cell cells v = get_or cells v Free

-- the term that a value stands for, before what is bound is applied
abbrev pub cell_term : CodeView → BindingCell → Term
cell_term code Free = VarTerm 0
cell_term code (Var v) = VarTerm v
cell_term code (Int z) = IntTerm z
cell_term code (Atom a) = AtomTerm (name_at code.names a)
cell_term code (Compound at base) = shifted base (meaning_in code (Sub at))

abbrev pub IsBoundCell : BindingCell → Type 0
IsBoundCell Free = ⊥
IsBoundCell (Var v) = Unit {0}
IsBoundCell (Int z) = Unit {0}
IsBoundCell (Atom a) = Unit {0}
IsBoundCell (Compound at base) = Unit {0}

-- a variable is bound to smaller ones alone
abbrev pub IsFalling : ℕ → BindingCell → Type 0
IsFalling v Free = Unit {0}
IsFalling v (Var w) = w < v
IsFalling v (Int z) = Unit {0}
IsFalling v (Atom a) = Unit {0}
IsFalling v (Compound at base) = Unit {0}

abbrev pub AreFalling : List BindingCell → Type 0
AreFalling cells = (v : ℕ) → IsFalling v (variable_cell cells v)

-- what a variable may be bound to
abbrev pub IsValueFor : ℕ → BindingCell → Type 0
IsValueFor v c = IsBoundCell c × IsFalling v c

-- by a substitution a variable stands for itself, or for what its value stands for
abbrev pub CellStandsFor : CodeView → Substitution → ℕ → BindingCell → Type 0
CellStandsFor code s v Free = value_of s v ≡ VarTerm v
CellStandsFor code s v (Var w) = value_of s v ≡ resolve s (VarTerm w)
CellStandsFor code s v (Int z) = value_of s v ≡ IntTerm z
CellStandsFor code s v (Atom a) = value_of s v ≡ AtomTerm (name_at code.names a)
CellStandsFor code s v (Compound at base) = value_of s v ≡ resolve s (shifted base (meaning_in code (Sub at)))

-- the cells represent a substitution: each variable stands for what its cell says
abbrev pub Represents : CodeView → List BindingCell → Substitution → Type 0
Represents code cells s = (v : ℕ) → CellStandsFor code s v (variable_cell cells v)

-- a free variable, or a value that is no variable
abbrev pub IsFollowed : List BindingCell → BindingCell → Type 0
IsFollowed cells Free = ⊥
IsFollowed cells (Var v) = variable_cell cells v ≡ Free
IsFollowed cells (Int z) = Unit {0}
IsFollowed cells (Atom a) = Unit {0}
IsFollowed cells (Compound at base) = Unit {0}

-- the cell of some variable
pub record IsCellOf (cells : List BindingCell) (c : BindingCell) : Type 0 where
  pub variable : ℕ
  pub is : variable_cell cells variable ≡ c

-- a variable that has a cell, or what a cell has
abbrev pub IsStored : List BindingCell → BindingCell → Type 0
IsStored cells Free = ⊥
IsStored cells (Var v) = v < length cells
IsStored cells (Int z) = IsCellOf cells (Int z)
IsStored cells (Atom a) = IsCellOf cells (Atom a)
IsStored cells (Compound at base) = IsCellOf cells (Compound at base)

abbrev pub BindingRepresents : Type 0
BindingRepresents = (code : CodeView) (cells : List BindingCell) (s now : Substitution) (v : ℕ) (c : BindingCell) → Represents code cells s → variable_cell cells v ≡ Free → v < length cells → IsBoundCell c
    → occurs v (resolve s (cell_term code c)) ≡ false → ((n : ℕ) → value_of now n ≡ apply (only v (resolve s (cell_term code c))) (value_of s n)) → Represents code (slice_set cells v c) now
