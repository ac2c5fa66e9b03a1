-- The arguments of op/3 as the program reads them.
use Rattle.std.specs.Prelude.{◌≡◌, ◌≤◌, ℕ, ℤ, pos, Bool, not, ◌||◌, List, map, Option, Some, None, Result, Ok, Err, Vec, codes}
use Rattle.std.specs.Global.{Global}
use Rattle.au_term.specs.Term.{Term, VarTerm, IntTerm, AtomTerm, Compound}
use Rattle.au_term.specs.declared.atom.Atom.{Atom}
use Rattle.au_term.specs.declared.flat.FlatTerm.{FlatTerm}
use Rattle.au_model.specs.Terms.Forms.{same_name, name_of}
use Rattle.au_model.specs.Terms.TermTypes.{is_atom}
use Rattle.au_model.specs.Terms.ListForms.{ListForm}
use Rattle.au_model.specs.Terms.ErrorTerms.{type_error, permission_error}
use Rattle.au_model.specs.Terms.Faults.{error_term_of}
use Rattle.au_model.specs.Syntax.Operators.{OperatorTable, OperatorKind}
use Rattle.au_model.specs.Syntax.OperatorChanges.{error_if, has_conflict, is_no_operator_name, is_proper, first_item_error, kind_named, items_in, named_items}
use Rattle.op_table.specs.OperatorView.{kind_meant}
use Rattle.op_table.specs.declared.change.Change.{Change}
use Rattle.op_table.specs.declared.refusal.OpRefusal.{OpRefusal}
use Rattle.op_table.specs.declared.refusal.OpRefusal.TheVariants.{Fault, NoMemory}

abbrev pub integer_in : Term → Option ℤ
integer_in (VarTerm n) = None
integer_in (IntTerm z) = Some z
integer_in (AtomTerm a) = None
integer_in (Compound f ts) = None

abbrev pub atom_in : Term → Option (List ℕ)
atom_in (VarTerm n) = None
atom_in (IntTerm z) = None
atom_in (AtomTerm a) = Some a
atom_in (Compound f ts) = None

abbrev pub no_atom_error : List Term → Option Term
no_atom_error ts = first_item_error (λ t. not (is_atom t)) (type_error (codes "atom")) ts

abbrev pub list_error : Term → ListForm → Option Term
list_error t form = error_if (not (is_proper form)) (type_error (codes "list") t)

abbrev pub comma_error : List Term → Option Term
comma_error ts = first_item_error (λ name. same_name (name_of name) (codes ",")) (permission_error (codes "modify") (codes "operator")) ts

-- a name that may not have an operator of this kind
abbrev pub is_refused : OperatorTable → OperatorKind → Term → Bool
is_refused t kind name = is_no_operator_name (name_of name) || has_conflict t (Some kind) (name_of name)

abbrev pub making_error : OperatorTable → OperatorKind → List Term → Option Term
making_error t kind ts = first_item_error (is_refused t kind) (permission_error (codes "create") (codes "operator")) ts

abbrev pub AreItems : List Term → Vec FlatTerm Global → Type 0
AreItems ts items = ts ≡ items.items

abbrev pub AreAtoms : List Term → Vec Atom Global → Type 0
AreAtoms ts atoms = ts ≡ map AtomTerm atoms.items

-- what is asked for, where the arguments are what they have to be
pub record IsRead (priority specifier names : Term) (c : Change) : Type 0 where
  pub number : priority ≡ IntTerm (pos c.priority)
  pub most : c.priority ≤ 1200
  pub word : kind_named (name_of specifier) ≡ Some (kind_meant c.kind)
  pub atoms : items_in (named_items names) ≡ map AtomTerm c.names.items

-- no error, or this one
abbrev pub IsTested : {X : Type 0} → Option Term → (X → Type 0) → Result X OpRefusal → Type 0
IsTested e P (Ok x) = (e ≡ None) × P x
IsTested e P (Err (Fault f)) = e ≡ Some (error_term_of f)
IsTested e P (Err NoMemory) = Unit {0}

abbrev pub IsRefusedWith : {X : Type 0} → Term → Result X OpRefusal → Type 0
IsRefusedWith e (Ok x) = ⊥
IsRefusedWith e (Err (Fault f)) = e ≡ error_term_of f
IsRefusedWith e (Err NoMemory) = Unit {0}

abbrev pub IsErrorOf : Result OperatorTable Term → OpRefusal → Type 0
IsErrorOf r (Fault f) = r ≡ Err (error_term_of f)
IsErrorOf r NoMemory = Unit {0}
