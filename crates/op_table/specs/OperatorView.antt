-- What the table's own types stand for.
use Rattle.std.specs.Prelude.{ℕ, List}
use Rattle.std.specs.Ordering.{nat_cmp, ordering_then}
use Rattle.std.specs.declared.cmp.Ordering.{Ordering}
use Rattle.std.specs.Cmp.Lexicographic.{slice_cmp}
use Rattle.au_model.specs.Syntax.Operators.{OperatorKind, KindXfx, KindXfy, KindYfx, KindFy, KindFx, KindXf, KindYf, OperatorClass, PrefixClass, InfixClass, PostfixClass, class_rank, row_rank, OperatorRow, Operator}
use Rattle.op_table.specs.declared.operator.Operator.{Operator as DeclaredOperator}
use Rattle.op_table.specs.declared.operator.OpRow.{OpRow}
use Rattle.op_table.specs.declared.operator.OpKind.{OpKind}
use Rattle.op_table.specs.declared.operator.OpKind.TheVariants.{Xfx, Xfy, Yfx, Fy, Fx, Xf, Yf}
use Rattle.op_table.specs.declared.operator.OpClass.{OpClass}
use Rattle.op_table.specs.declared.operator.OpClass.TheVariants.{Prefix, Infix, Postfix}

abbrev pub kind_meant : OpKind → OperatorKind
kind_meant Xfx = KindXfx
kind_meant Xfy = KindXfy
kind_meant Yfx = KindYfx
kind_meant Fy = KindFy
kind_meant Fx = KindFx
kind_meant Xf = KindXf
kind_meant Yf = KindYf

abbrev pub class_meant : OpClass → OperatorClass
class_meant Prefix = PrefixClass
class_meant Infix = InfixClass
class_meant Postfix = PostfixClass

abbrev pub operator_meant : DeclaredOperator → Operator
operator_meant o = record { priority = o.priority; kind = kind_meant o.kind }

abbrev pub row_meant : OpRow → OperatorRow
row_meant r = record { name = r.name; operator = operator_meant r.operator }

-- where a row is from the place of a class and a name
abbrev pub place_order : OperatorClass → List ℕ → OperatorRow → Ordering
place_order class name r = ordering_then (slice_cmp nat_cmp r.name name) (nat_cmp (row_rank r) (class_rank class))
