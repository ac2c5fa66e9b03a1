-- Terms written cell by cell: what a value stands for, or the term that it is.
use Rattle.std.specs.Prelude.{◌≡◌, ℕ, ◌+◌, ◌<◌, Bool, true, false, List, [], ◌++◌}
use Rattle.au_term.specs.Term.{Term}
use Rattle.au_term.specs.PrefixOrder.{cells_of, all_cells}
use Rattle.au_term.specs.declared.cell.Cell.{Cell}
use Rattle.au_model.specs.Terms.Lists.{terms_from}
use Rattle.au_model.specs.Terms.Substitutions.{Substitution, resolve}
use Rattle.au_model.specs.Terms.Unifier.{size}
use Rattle.clause_compile.specs.Places.{CodeView}
use Rattle.binding_array.specs.declared.cell.BindingCell.{BindingCell}
use Rattle.cell_store.specs.StoreView.{StoreView, IsUnbound, IsValueIn, substitution, text_in, value_term}
use Rattle.cell_store.specs.Arguments.{AllThere, pending_terms, resolved_terms, sizes}
use Rattle.cell_store.specs.declared.arguments.Arguments.{Arguments}

-- the cells of what is still to be written
abbrev pub cells_left : Substitution → CodeView → List Arguments → List Cell
cells_left s code pending = all_cells (terms_from (resolved_terms s (pending_terms code pending)))

-- the first cell of a term was written: with what is left it is the term and what was left
pub record GoesOnWriting (s : Substitution) (code : CodeView) (next : ℕ) (t : Term) (before after : List Cell) (old new : List Arguments) : Type 0 where
  pub same : after ++ cells_left s code new ≡ before ++ (cells_of t ++ cells_left s code old)
  pub fewer : sizes (resolved_terms s (pending_terms code new)) < size t + sizes (resolved_terms s (pending_terms code old))
  pub there : AllThere code next old → AllThere code next new

-- what is applied to a value: all that is bound, where bindings are followed
abbrev pub followed : Bool → StoreView → Substitution
followed true st = substitution st
followed false st = []

abbrev pub followed_term : Bool → StoreView → BindingCell → Term
followed_term follow st c = resolve (followed follow st) (value_term st c)

-- a value that comes to the same, and is no variable for which something is applied
pub record IsReachedBy (s : Substitution) (st : StoreView) (value reached : BindingCell) : Type 0 where
  pub same : resolve s (value_term st reached) ≡ resolve s (value_term st value)
  pub unbound : IsUnbound s reached
  pub there : IsValueIn st reached

-- the first cell of what a value comes to was written
abbrev pub IsFirstWritten : Bool → StoreView → BindingCell → List Cell → List Cell → List Arguments → List Arguments → Type 0
IsFirstWritten follow st c before after old new = GoesOnWriting (followed follow st) (text_in st) st.now.next (followed_term follow st c) before after old new
