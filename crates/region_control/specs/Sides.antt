-- Values that stand for compounds with two arguments.
use Rattle.std.specs.Prelude.{◌≡◌, ℕ, List}
use Rattle.au_term.specs.Term.{Term}
use Rattle.au_model.specs.Terms.Forms.{binary}
use Rattle.binding_array.specs.declared.cell.BindingCell.{BindingCell}
use Rattle.cell_store.specs.StoreView.{StoreView, IsValueIn, meaning}

-- a value stands for a compound of this name whose two arguments others stand for
pub record HasSides (st : StoreView) (value : BindingCell) (name : List ℕ) (sides : BindingCell × BindingCell) : Type 0 where
  pub left : IsValueIn st sides.0
  pub right : IsValueIn st sides.1
  pub term : meaning st value ≡ binary name (meaning st sides.0) (meaning st sides.1)

-- no such compound
abbrev pub HasNoSides : StoreView → BindingCell → List ℕ → Type 0
HasNoSides st value name = (left right : Term) → meaning st value ≡ binary name left right → ⊥
