-- What is found at an argument where a head is unified, and in an occurs check.
use Rattle.std.specs.Prelude.{◌≡◌, ℕ, ◌<◌, true, false, Option}
use Rattle.au_term.specs.Term.{VarTerm}
use Rattle.au_model.specs.Terms.Substitutions.{value_of}
use Rattle.au_term.specs.Shifted.{shifted}
use Rattle.clause_compile.specs.Places.{meaning_in}
use Rattle.clause_compile.specs.declared.place.Place.{Place}
use Rattle.binding_array.specs.declared.cell.BindingCell.{BindingCell}
use Rattle.binding_array.specs.declared.cell.BindingCell.TheVariants.{Free, Var, Int, Atom, Compound}
use Rattle.cell_store.specs.StoreView.{StoreView, IsUnbound, IsValueIn, meaning, substitution, text_in, value_term}
use Rattle.cell_store.specs.FreshVariables.{is_fresh}
use Rattle.cell_store.specs.Arguments.{AreThere, argument_meaning, is_in_any}
use Rattle.cell_store.specs.declared.arguments.Arguments.{Arguments}
use Rattle.cell_store.specs.declared.occurs.Searched.{Searched}
use Rattle.cell_store.specs.declared.occurs.Searched.TheVariants.{Found, Past, Inside}

-- a value that stands for what an argument does, and is no bound variable
pub record IsArgumentReached (st : StoreView) (base at : ℕ) (value : BindingCell) : Type 0 where
  pub same : meaning st value ≡ argument_meaning st base at
  pub unbound : IsUnbound (substitution st) value
  pub there : IsValueIn st value

-- a place with a number added means this variable, which is free and one of the clause of which this is the first one
pub record IsFreshPlace (st : StoreView) (place : Place) (base : ℕ) (from : Option ℕ) (v : ℕ) : Type 0 where
  pub is : shifted base (meaning_in (text_in st) place) ≡ VarTerm v
  pub there : v < st.now.next
  pub free : value_of (substitution st) v ≡ VarTerm v
  pub fresh : is_fresh v from ≡ true

-- a place with a number added means this compound
pub record IsCompoundPlace (st : StoreView) (place : Place) (base : ℕ) (compound : ℕ × ℕ) : Type 0 where
  pub is : value_term st (Compound compound.0 compound.1) ≡ shifted base (meaning_in (text_in st) place)
  pub there : IsValueIn st (Compound compound.0 compound.1)

-- neither a variable nor a compound
abbrev pub IsConstant : BindingCell → Type 0
IsConstant Free = ⊥
IsConstant (Var v) = ⊥
IsConstant (Int z) = Unit {0}
IsConstant (Atom a) = Unit {0}
IsConstant (Compound at base) = ⊥

-- whether a variable occurs in what one of these arguments stands for, or that it does where it does in those that are left
abbrev pub IsLookedAlong : StoreView → ℕ → Arguments → Searched → Type 0
IsLookedAlong st x a Found = is_in_any st x a ≡ true
IsLookedAlong st x a Past = is_in_any st x a ≡ false
IsLookedAlong st x a (Inside b) = (is_in_any st x b ≡ is_in_any st x a) × AreThere (text_in st) st.now.next b
