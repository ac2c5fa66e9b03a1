-- The rows that the program's table stands for: those of each name, in the order of the names.
use Rattle.std.specs.Prelude.{◌≡◌, ℕ, suc, zero, Bool, true, ◌&&◌, ◌==◌, List, [], ◌∷◌, ◌++◌, map, Option, Some, None, IsSome, chars}
use Rattle.std.specs.Global.{Global}
use Rattle.std.specs.Prelude.{String}
use Rattle.std.specs.String.{string_bytes, string_cmp}
use Rattle.std.specs.List.{AllByRecursion}
use Rattle.std.specs.Ordering.{nat_cmp}
use Rattle.std.specs.Cmp.Lexicographic.{slice_cmp}
use Rattle.std.specs.Map.{lookup}
use Rattle.std.specs.BTreeMap.{BTreeMap, IsOrdered, is_at}
use Rattle.au_model.specs.Syntax.Operators.{OperatorClass, PrefixClass, InfixClass, PostfixClass, class_of, class_rank, Operator, OperatorKind, OperatorTable, with_operator, without_operator}
use Rattle.op_table.specs.declared.operator.Operator.{Operator as DeclaredOperator}
use Rattle.op_table.specs.declared.names.NameOperators.{NameOperators}
use Rattle.op_table.specs.OperatorView.{kind_meant, operator_meant}

abbrev pub class_rows : List ℕ → Option DeclaredOperator → OperatorTable
class_rows name None = []
class_rows name (Some o) = (record { name = name; operator = operator_meant o }) ∷ []

abbrev pub name_rows : List ℕ → NameOperators → OperatorTable
name_rows name s = class_rows name s.as_prefix ++ (class_rows name s.as_infix ++ class_rows name s.as_postfix)

abbrev pub table_rows : List (List ℕ × NameOperators) → OperatorTable
table_rows [] = []
table_rows (e ∷ es) = name_rows e.0 e.1 ++ table_rows es

-- the names' characters in place of their bytes
abbrev pub named_entry : String Global × NameOperators → List ℕ × NameOperators
named_entry e = (chars (string_bytes e.0), e.1)

abbrev pub named_entries : BTreeMap (String Global) NameOperators → List (List ℕ × NameOperators)
named_entries m = map named_entry m.entries

abbrev pub rows_of : BTreeMap (String Global) NameOperators → OperatorTable
rows_of m = table_rows (named_entries m)

abbrev pub no_operators : NameOperators
no_operators = record { as_prefix = None; as_infix = None; as_postfix = None }

abbrev pub of_class : OperatorClass → NameOperators → Option DeclaredOperator
of_class PrefixClass s = s.as_prefix
of_class InfixClass s = s.as_infix
of_class PostfixClass s = s.as_postfix

abbrev pub with_class : OperatorClass → Option DeclaredOperator → NameOperators → NameOperators
with_class PrefixClass o s = record s { as_prefix = o }
with_class InfixClass o s = record s { as_infix = o }
with_class PostfixClass o s = record s { as_postfix = o }

abbrev pub fits_class : OperatorClass → Option DeclaredOperator → Bool
fits_class class None = true
fits_class class (Some o) = class_rank (class_of (kind_meant o.kind)) == class_rank class

-- each operator of a name is one of its class
abbrev pub is_classed : NameOperators → Bool
is_classed s = fits_class PrefixClass s.as_prefix && (fits_class InfixClass s.as_infix && fits_class PostfixClass s.as_postfix)

pub record IsNames (m : BTreeMap (String Global) NameOperators) : Type 0 where
  pub ordered : IsOrdered string_cmp m
  pub classed : AllByRecursion (λ e. is_classed e.1 ≡ true) (named_entries m)

-- a name has a place, though it may have no operator
abbrev pub HasName : BTreeMap (String Global) NameOperators → List ℕ → Type 0
HasName m name = IsSome (lookup (is_at (slice_cmp nat_cmp name)) (named_entries m))

-- the table with an operator of a name, or without that of the class
abbrev pub row_changed : OperatorClass → Option DeclaredOperator → OperatorTable → List ℕ → OperatorTable
row_changed class None t name = without_operator class name t
row_changed class (Some o) t name = with_operator t (record { name = name; operator = operator_meant o })

-- the operator of a priority and a kind; 0 is none
abbrev pub operator_by : ℕ → OperatorKind → Option Operator
operator_by zero kind = None
operator_by (suc n) kind = Some (record { priority = suc n; kind = kind })
