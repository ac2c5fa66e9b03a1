-- Values: what variables are bound to and what is unified. A compound is a place of the text and the number that is added
-- to its variables.
use Rattle.std.specs.Prelude.{ℕ, ◌<◌, ◌≤◌, List, length}
use Rattle.au_term.specs.Term.{var_bound}
use Rattle.au_term.specs.Shifted.{shifted}
use Rattle.clause_compile.specs.Places.{CodeView, IsPlaceOf, meaning_in}
use Rattle.clause_compile.specs.declared.place.Place.TheVariants.{Sub}
use Rattle.binding_array.specs.Represented.{variable_cell}
use Rattle.binding_array.specs.declared.cell.BindingCell.{BindingCell}
use Rattle.binding_array.specs.declared.cell.BindingCell.TheVariants.{Free, Var, Int, Atom, Compound}

-- a value whose places are of a text and whose variables are below a number
abbrev pub IsValue : CodeView → ℕ → BindingCell → Type 0
IsValue code n Free = ⊥
IsValue code n (Var v) = v < n
IsValue code n (Int z) = Unit {0}
IsValue code n (Atom a) = a < length code.names
IsValue code n (Compound at base) = IsPlaceOf code (Sub at) × (var_bound (shifted base (meaning_in code (Sub at))) ≤ n)

-- free, or such a value
abbrev pub IsCell : CodeView → ℕ → BindingCell → Type 0
IsCell code n Free = Unit {0}
IsCell code n (Var v) = IsValue code n (Var v)
IsCell code n (Int z) = IsValue code n (Int z)
IsCell code n (Atom a) = IsValue code n (Atom a)
IsCell code n (Compound at base) = IsValue code n (Compound at base)

abbrev pub AreCells : CodeView → List BindingCell → Type 0
AreCells code cells = (v : ℕ) → IsCell code (length cells) (variable_cell cells v)

abbrev pub IsNoVariable : BindingCell → Type 0
IsNoVariable Free = ⊥
IsNoVariable (Var v) = ⊥
IsNoVariable (Int z) = Unit {0}
IsNoVariable (Atom a) = Unit {0}
IsNoVariable (Compound at base) = Unit {0}
