-- Worked rows: what op/3 comes to.
use Rattle.std.specs.Prelude.{◌≡◌, ℕ, pos, negsuc, List, [], ◌∷◌, Result, Ok, Err, Option, Some, None, codes, refl}
use Rattle.au_term.specs.Term.{Term, VarTerm, IntTerm, AtomTerm}
use Rattle.au_model.specs.Terms.Forms.{unary, binary, list_term}
use Rattle.au_model.specs.Terms.ErrorTerms.{instantiation_error, type_error, domain_error, permission_error}
use Rattle.au_model.specs.Syntax.Operators.{Operator, KindXfx, KindXfy, OperatorTable, initial_operators, infix_of}
use Rattle.au_model.specs.Syntax.OperatorChanges.{operators_changed}

abbrev atom : List ℕ → Term
atom name = AtomTerm name

abbrev int : ℕ → Term
int n = IntTerm (pos n)

abbrev asked : Term → Term → Term → Result OperatorTable Term
asked priority specifier names = operators_changed initial_operators priority specifier names

-- a variable anywhere goes before all else, and items that are no atoms before the numbers
open_item : asked (atom (codes "p")) (int 1) (list_term (int 2 ∷ VarTerm 0 ∷ [])) ≡ Err instantiation_error
open_item = refl

open_tail : asked (int 700) (atom (codes "xfx")) (binary (codes ".") (atom (codes "a")) (VarTerm 0)) ≡ Err instantiation_error
open_tail = refl

priority_no_integer : asked (atom (codes "p")) (int 1) (int 2) ≡ Err (type_error (codes "integer") (atom (codes "p")))
priority_no_integer = refl

specifier_no_atom : asked (int 1201) (int 1) (int 2) ≡ Err (type_error (codes "atom") (int 1))
specifier_no_atom = refl

no_list : asked (int 1201) (atom (codes "a")) (unary (codes "f") (int 2)) ≡ Err (type_error (codes "list") (unary (codes "f") (int 2)))
no_list = refl

item_no_atom : asked (int 1201) (atom (codes "a")) (list_term (atom (codes ",") ∷ int 2 ∷ [])) ≡ Err (type_error (codes "atom") (int 2))
item_no_atom = refl

too_great : asked (int 1201) (atom (codes "a")) (atom (codes ",")) ≡ Err (domain_error (codes "operator_priority") (int 1201))
too_great = refl

below_zero : asked (IntTerm (negsuc 0)) (atom (codes "a")) (atom (codes ",")) ≡ Err (domain_error (codes "operator_priority") (IntTerm (negsuc 0)))
below_zero = refl

no_specifier : asked (int 700) (atom (codes "a")) (atom (codes ",")) ≡ Err (domain_error (codes "operator_specifier") (atom (codes "a")))
no_specifier = refl

-- the comma behind `[]`
comma_first : asked (int 700) (atom (codes "xfx")) (list_term (atom (codes "[]") ∷ atom (codes ",") ∷ [])) ≡ Err (permission_error (codes "modify") (codes "operator") (atom (codes ",")))
comma_first = refl

bar : asked (int 700) (atom (codes "xfx")) (list_term (atom (codes "a") ∷ atom (codes "|") ∷ [])) ≡ Err (permission_error (codes "create") (codes "operator") (atom (codes "|")))
bar = refl

-- also where it would be taken away
postfix_beside_infix : asked (int 0) (atom (codes "xf")) (atom (codes "is")) ≡ Err (permission_error (codes "create") (codes "operator") (atom (codes "is")))
postfix_beside_infix = refl

nothing_named : asked (int 700) (atom (codes "xfx")) (atom (codes "[]")) ≡ Ok initial_operators
nothing_named = refl

abbrev infix_in : List ℕ → Result OperatorTable Term → Option Operator
infix_in name (Err e) = None
infix_in name (Ok t) = infix_of t name

taken_away : infix_in (codes "=") (asked (int 0) (atom (codes "xfx")) (atom (codes "="))) ≡ None
taken_away = refl

both_put : infix_in (codes "===>") (asked (int 700) (atom (codes "xfx")) (list_term (atom (codes "a") ∷ atom (codes "===>") ∷ []))) ≡ Some (record { priority = 700; kind = KindXfx })
both_put = refl

-- an infix operator in the place of the other infix one
replaced : infix_in (codes "=") (asked (int 1) (atom (codes "xfy")) (atom (codes "="))) ≡ Some (record { priority = 1; kind = KindXfy })
replaced = refl
