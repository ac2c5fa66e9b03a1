-- The form in which a compound is written, and which operands are in brackets (ISO/IEC 13211-1, 6.3.4 and 7.10.5).
use Rattle.std.specs.Prelude.{ℕ, Bool, false, ◌&&◌, ◌||◌, ◌==◌, nat_lt, List, codes, Option, Some, None, if◌then◌else◌}
use Rattle.std.specs.Option.{is_some}
use Rattle.au_term.specs.Term.{Term, AtomTerm, Compound, Terms, end, more}
use Rattle.au_model.specs.Terms.Forms.{same_name}
use Rattle.au_model.specs.Syntax.Operators.{OperatorTable, Operator, prefix_of, infix_of, postfix_of}
use Rattle.au_model.specs.Syntax.PostOperators.{takes_equal_left, takes_equal_right, left_bound}
use Rattle.au_model.specs.Terms.Forms.{braces_name}

-- the operators that are written as such, and whether `'{}'(T)` is written as `{T}`
pub record Notation : Type 0 where
  pub operators : OperatorTable
  pub has_braces : Bool

-- the form of a compound
pub data CompoundForm : Type 0 where
  ListForm : CompoundForm
  BracedForm : CompoundForm
  InfixForm : Operator → CompoundForm
  PrefixForm : Operator → CompoundForm
  PostfixForm : Operator → CompoundForm
  FunctionalForm : CompoundForm

abbrev pub infix_form : Option Operator → CompoundForm
infix_form (Some o) = InfixForm o
infix_form None = FunctionalForm

abbrev pub postfix_form : Option Operator → CompoundForm
postfix_form (Some o) = PostfixForm o
postfix_form None = FunctionalForm

-- a name that is both is written as the prefix operator
abbrev pub prefix_form : Option Operator → Option Operator → CompoundForm
prefix_form (Some o) postfix = PrefixForm o
prefix_form None postfix = postfix_form postfix

abbrev pub unary_form : Notation → List ℕ → CompoundForm
unary_form notation n =
    if notation.has_braces && same_name n braces_name then BracedForm
    else prefix_form (prefix_of notation.operators n) (postfix_of notation.operators n)

abbrev pub binary_form : Notation → List ℕ → CompoundForm
binary_form notation n = if same_name n (codes ".") then ListForm else infix_form (infix_of notation.operators n)

abbrev pub form_of : Notation → List ℕ → Terms → CompoundForm
form_of notation n end = FunctionalForm
form_of notation n (more t end) = unary_form notation n
form_of notation n (more t (more u end)) = binary_form notation n
form_of notation n (more t (more u (more v ts))) = FunctionalForm

abbrev pub form_priority : CompoundForm → ℕ
form_priority (InfixForm o) = o.priority
form_priority (PrefixForm o) = o.priority
form_priority (PostfixForm o) = o.priority
form_priority _ = 0

-- the form ends with an operand that may have the operator's own priority
abbrev pub takes_equal_last : CompoundForm → Bool
takes_equal_last (InfixForm o) = takes_equal_right o.kind
takes_equal_last (PrefixForm o) = takes_equal_right o.kind
takes_equal_last _ = false

abbrev pub is_operator_name : OperatorTable → List ℕ → Bool
is_operator_name operators n = is_some (prefix_of operators n) || (is_some (infix_of operators n) || is_some (postfix_of operators n))

-- the form of a term; one that is no compound has no operator
abbrev pub form_of_term : Notation → Term → CompoundForm
form_of_term notation (Compound n ts) = form_of notation n ts
form_of_term notation _ = FunctionalForm

abbrev pub is_operator_atom : Notation → Term → Bool
is_operator_atom notation (AtomTerm n) = is_operator_name notation.operators n
is_operator_atom notation _ = false

-- an argument or item in brackets: its priority is above the bound
abbrev pub is_above : Notation → ℕ → Term → Bool
is_above notation bound t = nat_lt bound (form_priority (form_of_term notation t))

-- an operand in brackets: also an atom that is an operator
abbrev pub is_enclosed : Notation → ℕ → Term → Bool
is_enclosed notation bound t = is_operator_atom notation t || is_above notation bound t

-- A left operand in brackets: also one that would take in what follows it, since its own last operand may have the same
-- priority.
abbrev pub is_enclosed_left : Notation → Operator → Term → Bool
is_enclosed_left notation o t =
    is_enclosed notation (left_bound o) t
    || (takes_equal_left o.kind && (takes_equal_last (form_of_term notation t) && (form_priority (form_of_term notation t) == o.priority)))
