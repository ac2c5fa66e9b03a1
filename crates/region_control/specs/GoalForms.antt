-- Goals by their names and arguments, where these are in a store.
use Rattle.std.specs.Prelude.{◌≡◌, ◌<◌, ◌+◌, ◌^◌, true, length}
use Rattle.au_term.specs.Term.{Terms, arguments, argument_count}
use Rattle.au_model.specs.Terms.Forms.{is_callable, name_of}
use Rattle.au_model.specs.Terms.Lists.{terms_from}
use Rattle.au_model.specs.Terms.Substitutions.{apply_all, value_of}
use Rattle.clause_compile.specs.AtomNumbers.{name_at}
use Rattle.binding_array.specs.declared.cell.BindingCell.{BindingCell}
use Rattle.cell_store.specs.Arguments.{AreArguments, arguments_in}
use Rattle.cell_store.specs.StoreView.{StoreView, substitution, meaning, text_in}
use Rattle.cell_store.specs.declared.arguments.Arguments.{Arguments}
use Rattle.region_control.specs.declared.forms.GoalForm.{GoalForm}

-- what arguments stand for
abbrev pub argument_terms : StoreView → Arguments → Terms
argument_terms st a = apply_all (value_of (substitution st)) (terms_from (arguments_in (text_in st) a))

-- arguments that are there
pub record AreArgumentsIn (st : StoreView) (a : Arguments) : Type 0 where
  pub there : AreArguments (text_in st) st.now.next a.base a.count a.at
  pub short : a.at + a.count < 2 ^ 32

-- the name of a goal and its arguments
pub record IsFormOf (st : StoreView) (value : BindingCell) (form : GoalForm) : Type 0 where
  pub callable : is_callable (meaning st value) ≡ true
  pub named : form.name < length (text_in st).names
  pub name : name_of (meaning st value) ≡ name_at (text_in st).names form.name
  pub arguments : arguments (meaning st value) ≡ argument_terms st form.arguments
  pub count : argument_count (meaning st value) ≡ form.arguments.count
  pub there : AreArgumentsIn st form.arguments
