-- The arguments of compounds, by their places.
use Rattle.std.specs.Prelude.{◌≡◌, ℕ, zero, suc, ◌+◌, ◌<◌, ◌≤◌, ◌||◌, Bool, true, false, List, [], ◌∷◌, ◌++◌, length, map, get_or, Option, Some, None}
use Rattle.au_term.specs.Term.{Term, Compound as CompoundTerm, var_bound}
use Rattle.au_term.specs.Shifted.{shifted}
use Rattle.au_model.specs.Terms.Lists.{terms_from}
use Rattle.au_model.specs.Terms.Substitutions.{Substitution, resolve, occurs}
use Rattle.au_model.specs.Terms.Unifier.{size}
use Rattle.clause_compile.specs.AtomNumbers.{name_at}
use Rattle.clause_compile.specs.Places.{CodeView, IsArity, IsPlaceOf, meaning_in}
use Rattle.clause_compile.specs.declared.place.Place.{Place}
use Rattle.clause_compile.specs.declared.place.Place.TheVariants.{Var as VarPlace}
use Rattle.binding_array.specs.Represented.{cell_term}
use Rattle.binding_array.specs.declared.cell.BindingCell.{BindingCell}
use Rattle.binding_array.specs.declared.cell.BindingCell.TheVariants.{Compound}
use Rattle.cell_store.specs.StoreView.{StoreView, substitution, text_in, value_term, IsValueIn}
use Rattle.cell_store.specs.declared.arguments.Arguments.{Arguments}
use Rattle.cell_store.specs.declared.occurs.Searched.{Searched}
use Rattle.cell_store.specs.declared.occurs.Searched.TheVariants.{Found, Past, Inside}

abbrev pub code_place : CodeView → ℕ → Place
code_place code at = get_or code.places at (VarPlace 0)

-- the argument at a place, with a number added to its variables
abbrev pub argument_at : CodeView → ℕ → ℕ → Term
argument_at code base at = shifted base (meaning_in code (code_place code at))

-- so many arguments, from a place on
abbrev pub arguments_from : CodeView → ℕ → ℕ → ℕ → List Term
arguments_from code base zero at = []
arguments_from code base (suc n) at = argument_at code base at ∷ arguments_from code base n (at + 1)

-- an argument is there, and its variables are below a number
pub record IsArgument (code : CodeView) (next base at : ℕ) : Type 0 where
  pub within : at < length code.places
  pub place : IsPlaceOf code (code_place code at)
  pub below : var_bound (argument_at code base at) ≤ next

-- the value of an argument
pub record IsArgumentValue (st : StoreView) (base at : ℕ) (value : BindingCell) : Type 0 where
  pub term : value_term st value ≡ argument_at (text_in st) base at
  pub there : IsValueIn st value

-- what an argument stands for
abbrev pub argument_meaning : StoreView → ℕ → ℕ → Term
argument_meaning st base at = resolve (substitution st) (argument_at (text_in st) base at)

abbrev pub AreArguments : CodeView → ℕ → ℕ → ℕ → ℕ → Type 0
AreArguments code next base zero at = Unit {0}
AreArguments code next base (suc n) at = IsArgument code next base at × AreArguments code next base n (at + 1)

-- the compound at a place has this functor
pub record HasFunctor (code : CodeView) (next at base f n : ℕ) : Type 0 where
  pub named : f < length code.names
  pub arity : IsArity n
  pub arguments : AreArguments code next base n (at + 1)
  pub term : cell_term code (Compound at base) ≡ CompoundTerm (name_at code.names f) (terms_from (arguments_from code base n (at + 1)))

-- arguments that are still to be gone over
abbrev pub arguments_in : CodeView → Arguments → List Term
arguments_in code a = arguments_from code a.base a.count a.at

abbrev pub AreThere : CodeView → ℕ → Arguments → Type 0
AreThere code next a = (0 < a.count) × AreArguments code next a.base a.count a.at

-- the top ones first
abbrev pub pending_terms : CodeView → List Arguments → List Term
pending_terms code [] = []
pending_terms code (a ∷ further) = arguments_in code a ++ pending_terms code further

abbrev pub AllThere : CodeView → ℕ → List Arguments → Type 0
AllThere code next [] = Unit {0}
AllThere code next (a ∷ further) = AreThere code next a × AllThere code next further

abbrev pub resolved_terms : Substitution → List Term → List Term
resolved_terms s ts = map (resolve s) ts

abbrev pub occurs_in_any : ℕ → List Term → Bool
occurs_in_any x [] = false
occurs_in_any x (t ∷ ts) = occurs x t || occurs_in_any x ts

abbrev pub sizes : List Term → ℕ
sizes [] = 0
sizes (t ∷ ts) = size t + sizes ts

-- whether a variable occurs in what one of these stands for
abbrev pub is_in_any : StoreView → ℕ → Arguments → Bool
is_in_any st x a = occurs_in_any x (resolved_terms (substitution st) (arguments_in (text_in st) a))

-- the arguments of a compound, in which a variable occurs where it occurs in this
pub record AreInside (st : StoreView) (x : ℕ) (t : Term) (a : Arguments) : Type 0 where
  pub same : is_in_any st x a ≡ occurs x t
  pub fewer : sizes (resolved_terms (substitution st) (arguments_in (text_in st) a)) < size t
  pub there : AreThere (text_in st) st.now.next a

-- whether a variable occurs in a term, or that it is to be searched in these arguments
abbrev pub IsSearched : StoreView → ℕ → Term → Searched → Type 0
IsSearched st x t Found = occurs x t ≡ true
IsSearched st x t Past = occurs x t ≡ false
IsSearched st x t (Inside a) = AreInside st x t a

-- the arguments of a compound came on top
pub record HasOpened (code : CodeView) (next at base : ℕ) (old new : List Arguments) : Type 0 where
  pub name : List ℕ
  pub arguments : List Term
  pub term : cell_term code (Compound at base) ≡ CompoundTerm name (terms_from arguments)
  pub pending : pending_terms code new ≡ arguments ++ pending_terms code old
  pub there : AllThere code next old → AllThere code next new

-- all but the first of these came on top
pub record HasRest (code : CodeView) (next : ℕ) (a : Arguments) (old new : List Arguments) : Type 0 where
  pub terms : argument_at code a.base a.at ∷ pending_terms code new ≡ arguments_in code a ++ pending_terms code old
  pub there : AllThere code next new

abbrev pub KeepsRest : Arguments → List Arguments → List Arguments → Type 0
KeepsRest a old new = (code : CodeView) (next : ℕ) → AreThere code next a → AllThere code next old → HasRest code next a old new

-- what is next, with what waits behind it
abbrev pub with_waiting : {X : Type 0} → Option X → List X → List X
with_waiting None waiting = []
with_waiting (Some next) waiting = next ∷ waiting
