-- Parts of what values stand for, as values.
use Rattle.std.specs.Prelude.{◌≡◌, ℕ, pos, false}
use Rattle.au_term.specs.Term.{Term, IntTerm, argument_count}
use Rattle.run_model.specs.Goals.BuiltinAnswers.{equal}
use Rattle.run_model.specs.Goals.TermParts.{argument_answer, functor_name}
use Rattle.run_model.specs.Goals.TermTests.{is_variable}
use Rattle.binding_array.specs.declared.cell.BindingCell.{BindingCell}
use Rattle.cell_store.specs.StoreView.{StoreView, IsValueIn, meaning}

-- the name and the number of arguments of a term that is no variable
pub record IsFunctorOf (st : StoreView) (value : BindingCell) (functor : BindingCell × ℕ) : Type 0 where
  pub bound : is_variable (meaning st value) ≡ false
  pub there : IsValueIn st functor.0
  pub name : meaning st functor.0 ≡ functor_name (meaning st value)
  pub count : functor.1 ≡ argument_count (meaning st value)

-- the argument with a number
pub record IsArgumentOf (st : StoreView) (number : ℕ) (value found : BindingCell) : Type 0 where
  pub there : IsValueIn st found
  pub answer : (x : Term) → argument_answer (IntTerm (pos number)) (meaning st value) x ≡ equal x (meaning st found)
