-- Operators put into a table and taken out of it by op/3 (ISO/IEC 13211-1, 8.14.3): the error that it raises, or the
-- table that it leaves.
use Rattle.std.specs.Prelude.{ℕ, zero, suc, nat_le, Bool, true, false, not, ◌||◌, pos, negsuc, if◌then◌else◌, List, [], ◌∷◌, map, fold, Option, Some, None, is_some, Result, Ok, Err, codes}
use Rattle.std.specs.List.{list_any}
use Rattle.std.specs.Option.{is_none}
use Rattle.au_term.specs.Term.{Term, VarTerm, IntTerm, AtomTerm, Compound}
use Rattle.au_model.specs.Terms.Forms.{same_name, name_of, nil_name, braces_name}
use Rattle.au_model.specs.Terms.TermTypes.{is_variable, is_integer, is_atom}
use Rattle.au_model.specs.Terms.ListForms.{ListForm, ProperList, PartialList, NoList, list_form}
use Rattle.au_model.specs.Terms.ErrorTerms.{instantiation_error, type_error, domain_error, permission_error}
use Rattle.au_model.specs.Syntax.Operators.{OperatorKind, KindXfx, KindXfy, KindYfx, KindFy, KindFx, KindXf, KindYf, OperatorClass, PrefixClass, InfixClass, PostfixClass, class_of, Operator, OperatorTable, infix_of, postfix_of, with_operator, without_operator}

-- the kind of a specifier
abbrev pub kind_named : List ℕ → Option OperatorKind
kind_named name =
    if same_name name (codes "xfx") then Some KindXfx
    else if same_name name (codes "xfy") then Some KindXfy
    else if same_name name (codes "yfx") then Some KindYfx
    else if same_name name (codes "fy") then Some KindFy
    else if same_name name (codes "fx") then Some KindFx
    else if same_name name (codes "xf") then Some KindXf
    else if same_name name (codes "yf") then Some KindYf
    else None

-- an atom is one name, a list has one in each item, and `[]` is the list without items
abbrev pub named_items : Term → ListForm
named_items (AtomTerm a) = if same_name a nil_name then ProperList [] else ProperList (AtomTerm a ∷ [])
named_items (VarTerm n) = list_form (VarTerm n)
named_items (IntTerm z) = list_form (IntTerm z)
named_items (Compound f ts) = list_form (Compound f ts)

abbrev pub items_in : ListForm → List Term
items_in (ProperList ts) = ts
items_in (PartialList ts) = []
items_in NoList = []

abbrev pub is_proper : ListForm → Bool
is_proper (ProperList ts) = true
is_proper (PartialList ts) = false
is_proper NoList = false

-- a partial list, or a list with a variable in it
abbrev pub is_open_form : ListForm → Bool
is_open_form (ProperList ts) = list_any is_variable ts
is_open_form (PartialList ts) = true
is_open_form NoList = false

-- 0 takes an operator away
abbrev pub is_priority : Term → Bool
is_priority (IntTerm (pos n)) = nat_le n 1200
is_priority (IntTerm (negsuc n)) = false
is_priority (VarTerm n) = false
is_priority (AtomTerm a) = false
is_priority (Compound f ts) = false

-- the operator with which one of this class may not share a name
abbrev pub conflicting_operator : OperatorTable → OperatorClass → List ℕ → Option Operator
conflicting_operator t PrefixClass name = None
conflicting_operator t InfixClass name = postfix_of t name
conflicting_operator t PostfixClass name = infix_of t name

abbrev pub has_conflict : OperatorTable → Option OperatorKind → List ℕ → Bool
has_conflict t None name = false
has_conflict t (Some kind) name = is_some (conflicting_operator t (class_of kind) name)

-- `[]`, `{}` and the bar are never operators
abbrev pub is_no_operator_name : List ℕ → Bool
is_no_operator_name name = same_name name nil_name || (same_name name braces_name || same_name name (codes "|"))

abbrev pub error_if : Bool → Term → Option Term
error_if true e = Some e
error_if false e = None

-- the first error of those that there are
abbrev pub first_error : List (Option Term) → Option Term
first_error [] = None
first_error (Some e ∷ es) = Some e
first_error (None ∷ es) = first_error es

-- the first error of an item
abbrev pub first_item_error : (Term → Bool) → (Term → Term) → List Term → Option Term
first_item_error is_refused error ts = first_error (map (λ t. error_if (is_refused t) (error t)) ts)

-- what the arguments have to be, whatever the table: each condition is tried of all items before the next one (8.14.3.3)
abbrev pub argument_error : Term → Term → Term → Option Term
argument_error priority specifier names =
    first_error (error_if (is_variable priority || (is_variable specifier || is_open_form (named_items names))) instantiation_error
    ∷ error_if (not (is_integer priority)) (type_error (codes "integer") priority)
    ∷ error_if (not (is_atom specifier)) (type_error (codes "atom") specifier)
    ∷ error_if (not (is_proper (named_items names))) (type_error (codes "list") names)
    ∷ first_item_error (λ t. not (is_atom t)) (type_error (codes "atom")) (items_in (named_items names))
    ∷ error_if (not (is_priority priority)) (domain_error (codes "operator_priority") priority)
    ∷ error_if (is_none (kind_named (name_of specifier))) (domain_error (codes "operator_specifier") specifier)
    ∷ [])

-- the comma stays what it is, some names are never operators, and no name is both infix and postfix
abbrev pub name_error : OperatorTable → Option OperatorKind → List Term → Option Term
name_error t kind names =
    first_error (first_item_error (λ name. same_name (name_of name) (codes ",")) (permission_error (codes "modify") (codes "operator")) names
    ∷ first_item_error (λ name. is_no_operator_name (name_of name) || has_conflict t kind (name_of name)) (permission_error (codes "create") (codes "operator")) names
    ∷ [])

-- the table with the operator of a name, or without it where the priority is 0
abbrev pub with_named : ℕ → OperatorKind → OperatorTable → List ℕ → OperatorTable
with_named zero kind t name = without_operator (class_of kind) name t
with_named (suc n) kind t name = with_operator t (record { name = name; operator = record { priority = suc n; kind = kind } })

-- the table with those of all names, from the first on (8.14.3.1)
abbrev pub with_names : Term → Option OperatorKind → OperatorTable → List (List ℕ) → OperatorTable
with_names (IntTerm (pos n)) (Some kind) t names = fold (with_named n kind) t names
with_names priority kind t names = t

abbrev pub unless_error : Option Term → OperatorTable → Result OperatorTable Term
unless_error (Some e) t = Err e
unless_error None t = Ok t

-- what op(Priority, Specifier, Names) comes to
abbrev pub operators_changed : OperatorTable → Term → Term → Term → Result OperatorTable Term
operators_changed t priority specifier names =
    let kind = kind_named (name_of specifier) in
    let items = items_in (named_items names) in
    unless_error (first_error (argument_error priority specifier names ∷ name_error t kind items ∷ [])) (with_names priority kind t (map name_of items))
