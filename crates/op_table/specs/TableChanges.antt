-- Operators put into a table (ISO/IEC 13211-1, 8.14.3).
use Rattle.std.specs.Prelude.{ℕ, nat_eq, nat_lt, nat_le, Bool, not, ◌&&◌, ◌||◌, List, codes}
use Rattle.std.specs.Option.{is_none}
use Rattle.std.specs.Cmp.Lexicographic.{pointwise}
use Rattle.au_model.specs.Syntax.Operators.{OperatorTable, OperatorRow, class_of}
use Rattle.au_model.specs.Syntax.OperatorChanges.{conflicting_operator}

-- the comma, `[]` and `{}` stay what they are
abbrev pub is_protected_name : List ℕ → Bool
is_protected_name name = pointwise nat_eq name (codes ",") || (pointwise nat_eq name (codes "[]") || pointwise nat_eq name (codes "{}"))

-- an operator of priority 1 to 1200 whose name is neither kept nor, where it is infix, that of a postfix operator, or
-- the other way round
abbrev pub may_be_added : OperatorTable → OperatorRow → Bool
may_be_added t r =
    nat_lt 0 r.operator.priority && (nat_le r.operator.priority 1200 && (not (is_protected_name r.name) && is_none (conflicting_operator t (class_of r.operator.kind) r.name)))
