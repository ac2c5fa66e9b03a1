-- Values as bodies (ISO/IEC 13211-1, 7.6.2).
use Rattle.std.specs.Prelude.{◌≡◌, ◌+◌, ◌<◌, ℕ, suc, Bool, true, false, List, length, map, reverse, Option, Some, None}
use Rattle.std.specs.Option.{option_map}
use Rattle.au_term.specs.Term.{Term, VarTerm}
use Rattle.au_term.specs.PrefixOrder.{cells_of, due_after}
use Rattle.au_term.specs.declared.cell.Cell.{Cell}
use Rattle.au_model.specs.Terms.Each.{Each}
use Rattle.au_model.specs.Terms.Forms.{binary}
use Rattle.au_model.specs.Terms.Lists.{terms_from}
use Rattle.au_model.specs.Terms.Unifier.{size}
use Rattle.run_model.specs.Programs.Bodies.{body_of, is_junction}
use Rattle.clause_compile.specs.AtomNumbers.{name_at}
use Rattle.clause_compile.specs.NormalBodies.{joined_cells, bodies_cells}
use Rattle.binding_array.specs.declared.cell.BindingCell.{BindingCell}
use Rattle.cell_store.specs.Arguments.{sizes}
use Rattle.cell_store.specs.StoreView.{StoreView, IsValueIn, meaning, text_in}
use Rattle.meta_call.specs.declared.bodies.BodyPart.{BodyPart}
use Rattle.meta_call.specs.declared.bodies.BodyPart.TheVariants.{Variable, Integer, Junction, Goal}

-- a term that is the body that it stands for
abbrev pub IsOwnBody : Term → Type 0
IsOwnBody t = body_of t ≡ Some t

-- a value stands for a junction of what two others stand for
pub record IsJunctionOf (st : StoreView) (value : BindingCell) (name : ℕ) (left right : BindingCell) : Type 0 where
  pub named : name < length (text_in st).names
  pub joins : is_junction (name_at (text_in st).names name) ≡ true
  pub there : IsValueIn st left × IsValueIn st right
  pub term : meaning st value ≡ binary (name_at (text_in st).names name) (meaning st left) (meaning st right)

-- what stands where a goal is due
abbrev pub IsBodyPart : StoreView → BindingCell → BodyPart → Type 0
IsBodyPart st value (Variable n) = (meaning st value ≡ VarTerm n) × (n < st.now.next)
IsBodyPart st value Integer = body_of (meaning st value) ≡ None
IsBodyPart st value (Junction name left right) = IsJunctionOf st value name left right
IsBodyPart st value Goal = IsOwnBody (meaning st value)

-- the terms that pending values stand for, the last value's first
abbrev pub pending_meanings : StoreView → List BindingCell → List Term
pending_meanings st pending = map (meaning st) (reverse pending)

-- the cells of the bodies that they stand for, where each of them stands for one
abbrev pub pending_bodies : StoreView → List BindingCell → Option (List Cell)
pending_bodies st pending = bodies_cells (terms_from (pending_meanings st pending))

-- what stood where a goal was due was kept: with the bodies of what is pending it is the same cells as before
pub record KeepsPart (st : StoreView) (value : BindingCell) (built now : List Cell) (old new : List BindingCell) : Type 0 where
  pub same : joined_cells (Some now) (pending_bodies st new) ≡ joined_cells (Some built) (joined_cells (option_map cells_of (body_of (meaning st value))) (pending_bodies st old))
  pub due : due_after 1 built ≡ suc (length old) → due_after 1 now ≡ length new
  pub fewer : sizes (pending_meanings st new) < size (meaning st value) + sizes (pending_meanings st old)
  pub there : Each (IsValueIn st) old → Each (IsValueIn st) new

abbrev pub KeepsPartOr : StoreView → BindingCell → List Cell → List Cell → List BindingCell → List BindingCell → Bool → Type 0
KeepsPartOr st value built now old new true = KeepsPart st value built now old new
KeepsPartOr st value built now old new false = body_of (meaning st value) ≡ None
