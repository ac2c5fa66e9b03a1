-- Goals that tell and compare terms (ISO/IEC 13211-1, 8.3 and 8.4; callable/1, ground/1 and compare/3 are of its second
-- corrigendum).
pub use Rattle.au_model.specs.Terms.TermTypes.{is_variable, is_integer, is_atom, is_compound}
use Rattle.std.specs.Prelude.{ℕ, Bool, not, ◌||◌, ◌==◌, if◌then◌else◌, List, [], ◌∷◌, codes, Err}
use Rattle.std.specs.declared.cmp.Ordering.{Ordering}
use Rattle.std.specs.declared.cmp.Ordering.TheVariants.{Less, Equal, Greater}
use Rattle.std.specs.Ordering.{is_eq, is_ne, is_lt, is_le, is_gt, is_ge}
use Rattle.au_term.specs.Term.{Term, VarTerm, AtomTerm, term_at, var_bound}
use Rattle.au_model.specs.Terms.Forms.{same_name, is_callable}
use Rattle.au_model.specs.Terms.ErrorTerms.{type_error, domain_error}
use Rattle.run_model.specs.Goals.Control.{Construct}
use Rattle.run_model.specs.Goals.BuiltinAnswers.{Answer, equal, holds_if, predicate}
use Rattle.run_model.specs.Goals.StandardOrder.{order}

abbrev pub is_atomic : Term → Bool
is_atomic t = is_integer t || is_atom t

-- every variable has a number, and the least number above all of them is then above 0
abbrev pub is_ground : Term → Bool
is_ground t = var_bound t == 0

abbrev pub test_row : List ℕ → (Term → Bool) → Construct
test_row name test = predicate name 1 (λ ts next. holds_if (test (term_at 0 ts)))

abbrev pub type_tests : List Construct
type_tests =
    test_row (codes "var") is_variable
    ∷ test_row (codes "nonvar") (λ t. not (is_variable t))
    ∷ test_row (codes "atom") is_atom
    ∷ test_row (codes "integer") is_integer
    ∷ test_row (codes "number") is_integer
    ∷ test_row (codes "atomic") is_atomic
    ∷ test_row (codes "compound") is_compound
    ∷ test_row (codes "callable") is_callable
    ∷ test_row (codes "ground") is_ground
    ∷ []

-- comparison in the standard order
abbrev pub order_row : List ℕ → (Ordering → Bool) → Construct
order_row name test = predicate name 2 (λ ts next. holds_if (test (order (term_at 0 ts) (term_at 1 ts))))

abbrev pub order_symbol : Ordering → List ℕ
order_symbol Less = codes "<"
order_symbol Equal = codes "="
order_symbol Greater = codes ">"

abbrev pub is_order_symbol : List ℕ → Bool
is_order_symbol a = same_name a (codes "<") || (same_name a (codes "=") || same_name a (codes ">"))

-- compare(O, A, B)
abbrev pub compare_answer : Term → Term → Term → Answer
compare_answer (VarTerm n) a b = equal (VarTerm n) (AtomTerm (order_symbol (order a b)))
compare_answer (AtomTerm o) a b =
    if is_order_symbol o then equal (AtomTerm o) (AtomTerm (order_symbol (order a b)))
    else Err (domain_error (codes "order") (AtomTerm o))
compare_answer o a b = Err (type_error (codes "atom") o)

abbrev pub order_goals : List Construct
order_goals =
    order_row (codes "==") is_eq
    ∷ order_row (codes "\\==") is_ne
    ∷ order_row (codes "@<") is_lt
    ∷ order_row (codes "@=<") is_le
    ∷ order_row (codes "@>") is_gt
    ∷ order_row (codes "@>=") is_ge
    ∷ predicate (codes "compare") 3 (λ ts next. compare_answer (term_at 0 ts) (term_at 1 ts) (term_at 2 ts))
    ∷ []
