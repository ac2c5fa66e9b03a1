-- What the writer's own types stand for.
use Rattle.std.specs.Prelude.{ℕ, zero, suc, Bool, true, false, ◌&&◌, ◌||◌, ◌==◌, nat_lt, List, [], Option, Some, None}
use Rattle.std.specs.Borrow.{Bor}
use Rattle.au_term.specs.declared.cell.Cell.{Cell}
use Rattle.au_term.specs.declared.cell.Cell.TheVariants.{Atom as AtomCell, Functor}
use Rattle.au_model.specs.Syntax.Operators.{OperatorTable, Operator}
use Rattle.au_model.specs.Syntax.PostOperators.{takes_equal_left, left_bound}
use Rattle.au_model.specs.Writing.OperatorForms.{Notation, CompoundForm, ListForm, BracedForm, InfixForm, PrefixForm, PostfixForm, FunctionalForm, unary_form, binary_form, form_priority, takes_equal_last, is_operator_name}
use Rattle.op_table.specs.OperatorView.{operator_meant}
use Rattle.term_writer.specs.declared.forms.Notation.{Notation as DeclaredNotation}
use Rattle.term_writer.specs.declared.forms.Form.{Form}
use Rattle.term_writer.specs.declared.forms.Form.TheVariants.{List as ListTag, Braces, Infix, Prefix, Postfix, Functional}

abbrev pub operators_meant : Option (Bor OperatorTable) → Notation
operators_meant (Some ops) = record { operators = ops.now; has_braces = true }
operators_meant None = record { operators = []; has_braces = false }

abbrev pub notation_meant : DeclaredNotation → Notation
notation_meant n = operators_meant n.operators

abbrev pub form_meant : Form → CompoundForm
form_meant ListTag = ListForm
form_meant Braces = BracedForm
form_meant (Infix o) = InfixForm (operator_meant o)
form_meant (Prefix o) = PrefixForm (operator_meant o)
form_meant (Postfix o) = PostfixForm (operator_meant o)
form_meant Functional = FunctionalForm

-- the form of a compound with this name and number of arguments
abbrev pub counted_form : Notation → List ℕ → ℕ → CompoundForm
counted_form n f zero = FunctionalForm
counted_form n f (suc zero) = unary_form n f
counted_form n f (suc (suc zero)) = binary_form n f
counted_form n f (suc (suc (suc k))) = FunctionalForm

-- of a term by its first cell: its form, and whether it is in brackets
abbrev pub compound_form_of_cell : Notation → Cell → CompoundForm
compound_form_of_cell n (Functor f k) = counted_form n f k
compound_form_of_cell n _ = FunctionalForm

abbrev pub cell_is_operator : Notation → Cell → Bool
cell_is_operator n (AtomCell a) = is_operator_name n.operators a
cell_is_operator n _ = false

abbrev pub cell_above : Notation → ℕ → Cell → Bool
cell_above n bound c = nat_lt bound (form_priority (compound_form_of_cell n c))

abbrev pub cell_enclosed : Notation → ℕ → Cell → Bool
cell_enclosed n bound c = cell_is_operator n c || cell_above n bound c

abbrev pub cell_enclosed_left : Notation → Operator → Cell → Bool
cell_enclosed_left n o c =
    cell_enclosed n (left_bound o) c
    || (takes_equal_left o.kind && (takes_equal_last (compound_form_of_cell n c) && (form_priority (compound_form_of_cell n c) == o.priority)))
