-- Operators (ISO/IEC 13211-1, 6.3.4).
use Rattle.std.specs.Prelude.{◌≡◌, ℕ, Bool, true, not, ◌&&◌, ◌||◌, ◌==◌, nat_eq, cond, List, [], ◌∷◌, ◌++◌, map, fold, filter, Option, Some, None, codes, ◌<◌, ◌≤◌, All}
use Rattle.std.specs.Ordering.{nat_cmp, ordering_then}
use Rattle.std.specs.declared.cmp.Ordering.{Ordering}
use Rattle.std.specs.declared.cmp.Ordering.TheVariants.{Less, Equal, Greater}
use Rattle.std.specs.Cmp.Lexicographic.{pointwise, slice_cmp}
use Rattle.std.specs.List.Sorted.{IsStrictlySortedBy}
use Rattle.std.specs.Option.{is_none}

-- where the operands are: f is the operator, x an operand of lower priority, y one of at most the operator's
pub data OperatorKind : Type 0 where
  KindXfx : OperatorKind
  KindXfy : OperatorKind
  KindYfx : OperatorKind
  KindFy : OperatorKind
  KindFx : OperatorKind
  KindXf : OperatorKind
  KindYf : OperatorKind

pub data OperatorClass : Type 0 where
  PrefixClass : OperatorClass
  InfixClass : OperatorClass
  PostfixClass : OperatorClass

abbrev pub class_of : OperatorKind → OperatorClass
class_of KindXfx = InfixClass
class_of KindXfy = InfixClass
class_of KindYfx = InfixClass
class_of KindFy = PrefixClass
class_of KindFx = PrefixClass
class_of KindXf = PostfixClass
class_of KindYf = PostfixClass

-- the order of the classes
abbrev pub class_rank : OperatorClass → ℕ
class_rank PrefixClass = 0
class_rank InfixClass = 1
class_rank PostfixClass = 2

pub record Operator : Type 0 where
  pub priority : ℕ
  pub kind : OperatorKind

-- an operator and its name
pub record OperatorRow : Type 0 where
  pub name : List ℕ
  pub operator : Operator

-- a table is its rows, by name and then prefix, infix, postfix
abbrev pub OperatorTable : Type 0
OperatorTable = List OperatorRow

abbrev pub row_rank : OperatorRow → ℕ
row_rank r = class_rank (class_of r.operator.kind)

-- names by their characters' codes, and then classes
abbrev pub row_order : OperatorRow → OperatorRow → Ordering
row_order r s = ordering_then (slice_cmp nat_cmp r.name s.name) (nat_cmp (row_rank r) (row_rank s))

-- whether a row is of this name and class
abbrev pub is_operator_row : OperatorClass → List ℕ → OperatorRow → Bool
is_operator_row class name r = pointwise nat_eq r.name name && row_rank r == class_rank class

-- the operator of a name in a class
abbrev pub operator_of : OperatorClass → OperatorTable → List ℕ → Option Operator
operator_of class [] name = None
operator_of class (r ∷ rs) name = cond (is_operator_row class name r) (Some r.operator) (operator_of class rs name)

abbrev pub prefix_of : OperatorTable → List ℕ → Option Operator
prefix_of t name = operator_of PrefixClass t name

abbrev pub infix_of : OperatorTable → List ℕ → Option Operator
infix_of t name = operator_of InfixClass t name

abbrev pub postfix_of : OperatorTable → List ℕ → Option Operator
postfix_of t name = operator_of PostfixClass t name

-- the comma between goals, which no table changes
abbrev pub comma_operator : Operator
comma_operator = record { priority = 1000; kind = KindXfy }

abbrev pub is_no_operator : OperatorTable → List ℕ → Bool
is_no_operator t name = is_none (prefix_of t name) && (is_none (infix_of t name) && is_none (postfix_of t name))

-- no row of an infix operator has the name of a postfix operator
abbrev pub is_operator_name_free : OperatorTable → OperatorRow → Bool
is_operator_name_free t r = not (row_rank r == class_rank InfixClass) || is_none (postfix_of t r.name)

-- Each name has at most one operator of each class, and priorities are from 1 to 1200. A name is not both infix and postfix.
-- The comma is what it is, and `[]` and `{}` are no operators (6.3.4.3 and 8.14.3.3).
pub record IsOperatorTable (t : OperatorTable) : Type 0 where
  pub ordered : IsStrictlySortedBy row_order t
  pub priorities : All (λ r. (0 < r.operator.priority) × (r.operator.priority ≤ 1200)) t
  pub apart : All (λ r. is_operator_name_free t r ≡ true) t
  pub comma : infix_of t (codes ",") ≡ Some comma_operator
  pub nil : is_no_operator t (codes "[]") ≡ true
  pub braces : is_no_operator t (codes "{}") ≡ true

-- a row put in its place: before this one, in its stead, or further on
abbrev pub row_placed : Ordering → OperatorRow → OperatorRow → OperatorTable → OperatorTable → OperatorTable
row_placed Less row r rs further = row ∷ r ∷ rs
row_placed Equal row r rs further = row ∷ rs
row_placed Greater row r rs further = r ∷ further

-- the table with an operator in place of the one that its name had in its class
abbrev pub with_operator : OperatorTable → OperatorRow → OperatorTable
with_operator [] row = row ∷ []
with_operator (r ∷ rs) row = row_placed (row_order row r) row r rs (with_operator rs row)

-- the table without the operator of a name in a class
abbrev pub without_operator : OperatorClass → List ℕ → OperatorTable → OperatorTable
without_operator class name t = filter (λ r. not (is_operator_row class name r)) t

abbrev pub operators_at : ℕ → OperatorKind → List (List ℕ) → List OperatorRow
operators_at priority kind names = map (λ name. record { name = name; operator = record { priority = priority; kind = kind } }) names

-- the standard's operators (6.3.4.4)
abbrev pub standard_operators : List OperatorRow
standard_operators =
    operators_at 1200 KindXfx (codes ":-" ∷ codes "-->" ∷ [])
    ++ operators_at 1200 KindFx (codes ":-" ∷ codes "?-" ∷ [])
    ++ operators_at 1100 KindXfy (codes ";" ∷ [])
    ++ operators_at 1050 KindXfy (codes "->" ∷ [])
    ++ operators_at 1000 KindXfy (codes "," ∷ [])
    ++ operators_at 900 KindFy (codes "\\+" ∷ [])
    ++ operators_at 700 KindXfx (codes "=" ∷ codes "\\=" ∷ codes "==" ∷ codes "\\==" ∷ codes "@<" ∷ codes "@=<" ∷ codes "@>" ∷ codes "@>=" ∷ codes "=.." ∷ codes "is" ∷ codes "=:=" ∷ codes "=\\=" ∷ codes "<" ∷ codes "=<" ∷ codes ">" ∷ codes ">=" ∷ [])
    ++ operators_at 500 KindYfx (codes "+" ∷ codes "-" ∷ codes "/\\" ∷ codes "\\/" ∷ [])
    ++ operators_at 400 KindYfx (codes "*" ∷ codes "/" ∷ codes "//" ∷ codes "rem" ∷ codes "mod" ∷ codes "<<" ∷ codes ">>" ∷ [])
    ++ operators_at 200 KindXfx (codes "**" ∷ [])
    ++ operators_at 200 KindXfy (codes "^" ∷ [])
    ++ operators_at 200 KindFy (codes "-" ∷ codes "\\" ∷ [])

-- the table that a text begins with
abbrev pub initial_operators : OperatorTable
initial_operators = fold with_operator [] standard_operators
