-- What calls come to (ISO/IEC 13211-1, 7.8.3, and 8.15.4 of its second corrigendum).
use Rattle.std.specs.Prelude.{◌≡◌, ℕ, ◌+◌, ◌≤◌, true, length, codes}
use Rattle.au_term.specs.Term.{Terms, count, argument_count}
use Rattle.au_model.specs.Terms.Faults.{error_term_of}
use Rattle.au_model.specs.Terms.Forms.{is_callable}
use Rattle.au_model.specs.declared.fault.Fault.{Fault}
use Rattle.run_model.specs.Goals.Control.{call_outcome, raises}
use Rattle.binding_array.specs.declared.cell.BindingCell.{BindingCell}
use Rattle.cell_store.specs.StoreView.{StoreView, value_term, meaning}
use Rattle.region_split.specs.Regions.{RegionView}
use Rattle.region_split.specs.StackOperations.{KeepsPositions, StaysStanding}

-- an atom or a compound that has room for so many further arguments
pub record CanTake (st : StoreView) (callee : BindingCell) (further : ℕ) : Type 0 where
  pub callable : is_callable (value_term st callee) ≡ true
  pub most : argument_count (value_term st callee) + further ≤ 65535

-- a call with so many further arguments comes to an error, whichever they are
abbrev pub IsCallRefused : StoreView → BindingCell → ℕ → Fault → Type 0
IsCallRefused st callee further fault = (us : Terms) → count us ≡ further → call_outcome (further + 1) (meaning st callee) us ≡ raises (error_term_of fault) (codes "call") (further + 1)

-- terms were made, and what was left to do is left as it was
pub record MakesTerms (old new : RegionView) : Type 0 where
  pub stays : StaysStanding old new
  pub keeps : KeepsPositions old new (length old.frames)
