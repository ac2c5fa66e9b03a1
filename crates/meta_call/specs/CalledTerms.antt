-- Terms with further arguments, as they stand in the text.
use Rattle.std.specs.Prelude.{◌≡◌, ℕ, ◌<◌, length, List, [], ◌++◌, reverse}
use Rattle.au_term.specs.PrefixOrder.{cells_of}
use Rattle.au_term.specs.declared.cell.Cell.{Cell}
use Rattle.au_term.specs.Term.{AtomTerm, Terms}
use Rattle.au_model.specs.Terms.Lists.{terms_from}
use Rattle.run_model.specs.Goals.Control.{with_arguments}
use Rattle.clause_compile.specs.AtomNumbers.{name_at}
use Rattle.clause_compile.specs.Places.{CodeView}
use Rattle.binding_array.specs.declared.cell.BindingCell.{BindingCell}
use Rattle.cell_store.specs.StoreView.{StoreView, text_in, value_term}
use Rattle.cell_store.specs.Arguments.{arguments_in, pending_terms, AreArguments, AllThere}
use Rattle.cell_store.specs.WrittenTerms.{cells_left, GoesOnWriting}
use Rattle.cell_store.specs.declared.arguments.Arguments.{Arguments}

-- the arguments as they stand
abbrev pub further_terms : StoreView → Arguments → Terms
further_terms st further = terms_from (arguments_in (text_in st) further)

-- the term with further arguments is begun: with the arguments that are left it is whole
pub record HasBegun (st : StoreView) (callee : BindingCell) (further : Arguments) (built : List Cell) (pending : List Arguments) : Type 0 where
  pub same : built ++ cells_left [] (text_in st) (reverse pending) ≡ cells_of (with_arguments (value_term st callee) (further_terms st further))
  pub there : AllThere (text_in st) st.now.next (reverse pending)

-- the first cell of a value was written, as it stands
abbrev pub IsFirstTaken : StoreView → BindingCell → List Cell → List Cell → List Arguments → List Arguments → Type 0
IsFirstTaken st c before after old new = GoesOnWriting [] (text_in st) st.now.next (value_term st c) before after old new

-- an atom, or a compound: the atom of its name with its arguments
pub record HasNameAndArguments (st : StoreView) (callee : BindingCell) (name : ℕ) (own : Arguments) : Type 0 where
  pub named : name < length (text_in st).names
  pub term : value_term st callee ≡ with_arguments (AtomTerm (name_at (text_in st).names name)) (terms_from (arguments_in (text_in st) own))
  pub there : AreArguments (text_in st) st.now.next own.base own.count own.at

-- arguments came on top
pub record HasArgumentsOnTop (code : CodeView) (next : ℕ) (a : Arguments) (old new : List Arguments) : Type 0 where
  pub terms : pending_terms code new ≡ arguments_in code a ++ pending_terms code old
  pub there : AllThere code next new

abbrev pub PutsArguments : Arguments → List Arguments → List Arguments → Type 0
PutsArguments a old new = (code : CodeView) (next : ℕ) → AreArguments code next a.base a.count a.at → AllThere code next old → HasArgumentsOnTop code next a old new
