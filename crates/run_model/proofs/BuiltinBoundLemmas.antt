-- The solutions of built-in predicates have no variable past those of the goal and the new ones.
use Rattle.std.proofs.Common.{ℕ, Bool, true, false, ℤ, cond, List, [], ◌∷◌, ◌++◌, Ok, Err, arith}
use Rattle.std.specs.Prelude.{codes, is_none, not, int_lt, int_le}
use Rattle.std.specs.Ordering.{int_eq, is_eq, is_ne, is_lt, is_le, is_gt, is_ge}
use Rattle.std.specs.declared.cmp.Ordering.{Ordering}
use Rattle.au_term.specs.Term.{Term, VarTerm, IntTerm, AtomTerm, Compound, term_at}
use Rattle.au_model.specs.Terms.Each.{Each}
use Rattle.run_model.specs.Laws.Numbering.{IsTermBelow}
use Rattle.au_model.specs.Terms.Unifier.{unifier}
use Rattle.au_model.specs.Terms.ErrorTerms.{domain_error}
use Rattle.au_model.specs.Terms.Forms.{is_callable}
use Rattle.run_model.specs.Goals.BuiltinAnswers.{Answer, equal, holds_if}
use Rattle.run_model.specs.Goals.Arithmetic.{Evaluated, expression_value}
use Rattle.run_model.specs.Goals.ArithmeticGoals.{with_value, is_answer, comparison_answer, comparison, arithmetic_goals}
use Rattle.run_model.specs.Goals.StandardOrder.{order}
use Rattle.run_model.specs.Goals.TermTests.{is_variable, is_integer, is_atom, is_compound, is_atomic, is_ground, test_row, type_tests, order_row, order_symbol, is_order_symbol, compare_answer, order_goals}
use Rattle.run_model.specs.Goals.TermParts.{term_parts}
use Rattle.run_model.specs.Goals.UnificationGoals.{apart_answer, unification_goals}
use Rattle.run_model.specs.Goals.AtomGoals.{atom_goals}
use Rattle.run_model.specs.Goals.AtomParts.{part_goals}
use Rattle.run_model.specs.Goals.NumberTexts.{number_goals}
use Rattle.run_model.specs.Goals.Sorting.{sorting_goals}
use Rattle.run_model.specs.Goals.Builtins.{builtins}
use Rattle.au_model.proofs.EachLemmas.{each-append}
use Rattle.run_model.proofs.AnswerBoundLemmas.{IsAnswerBelow, row-below, holds-below, equal-below}
use Rattle.run_model.proofs.TermPartBoundLemmas.{term_parts-below}
use Rattle.run_model.proofs.AtomGoalPlainLemmas.{atom_goals-below}
use Rattle.run_model.proofs.AtomPartPlainLemmas.{part_goals-below}
use Rattle.run_model.proofs.NumberTextPlainLemmas.{number_goals-below}
use Rattle.run_model.proofs.SortingLemmas.{sorting_goals-below}
use Rattle.run_model.proofs.BuiltinRowBoundLemmas.{IsRowBelow, term-below}

-- tests
test-below : (name : List ℕ) (test : Term → Bool) → IsRowBelow (test_row name test)
test-below name test = row-below name 1 (λ ts next. holds_if (test (term_at 0 ts))) (λ ts next n h. holds-below next (test (term_at 0 ts)))

order-below : (name : List ℕ) (test : Ordering → Bool) → IsRowBelow (order_row name test)
order-below name test = row-below name 2 (λ ts next. holds_if (test (order (term_at 0 ts) (term_at 1 ts)))) (λ ts next n h. holds-below next (test (order (term_at 0 ts) (term_at 1 ts))))

compare-below : (next : ℕ) (o a b : Term) → IsTermBelow next o → IsAnswerBelow next (compare_answer o a b)
compare-below next (VarTerm n) a b h = equal-below next (VarTerm n) (AtomTerm (order_symbol (order a b))) h (omega arith)
compare-below next (IntTerm z) a b h = tt
compare-below next (AtomTerm o) a b h = by (is_order_symbol o)
  where
    by : (c : Bool) → IsAnswerBelow next (cond c (equal (AtomTerm o) (AtomTerm (order_symbol (order a b)))) (Err (domain_error (codes "order") (AtomTerm o))))
    by true = equal-below next (AtomTerm o) (AtomTerm (order_symbol (order a b))) (omega arith) (omega arith)
    by false = tt
compare-below next (Compound f ts) a b h = tt

type_tests-below : Each IsRowBelow type_tests
type_tests-below =
    (test-below (codes "var") is_variable, (test-below (codes "nonvar") (λ t. not (is_variable t)), (test-below (codes "atom") is_atom, (test-below (codes "integer") is_integer, (test-below (codes "number") is_integer, (test-below (codes "atomic") is_atomic, (test-below (codes "compound") is_compound, (test-below (codes "callable") is_callable, (test-below (codes "ground") is_ground, tt)))))))))

order_goals-below : Each IsRowBelow order_goals
order_goals-below =
    (order-below (codes "==") is_eq, (order-below (codes "\\==") is_ne, (order-below (codes "@<") is_lt, (order-below (codes "@=<") is_le, (order-below (codes "@>") is_gt, (order-below (codes "@>=") is_ge, (row-below (codes "compare") 3 (λ ts next. compare_answer (term_at 0 ts) (term_at 1 ts) (term_at 2 ts)) (λ ts next n h. compare-below next (term_at 0 ts) (term_at 1 ts) (term_at 2 ts) (term-below 0 next ts (omega arith) h)), tt)))))))

-- arithmetic
value-below : (next : ℕ) (v : Evaluated) (answer : ℤ → Answer) → ((z : ℤ) → IsAnswerBelow next (answer z)) → IsAnswerBelow next (with_value v answer)
value-below next (Ok z) answer h = h z
value-below next (Err e) answer h = tt

comparison-below : (name : List ℕ) (test : ℤ → ℤ → Bool) → IsRowBelow (comparison name test)
comparison-below name test = row-below name 2 (λ ts next. comparison_answer test (term_at 0 ts) (term_at 1 ts)) (λ ts next n h. value-below next (expression_value (term_at 0 ts)) (λ y. with_value (expression_value (term_at 1 ts)) (λ z. holds_if (test y z))) (λ y. value-below next (expression_value (term_at 1 ts)) (λ z. holds_if (test y z)) (λ z. holds-below next (test y z))))

arithmetic_goals-below : Each IsRowBelow arithmetic_goals
arithmetic_goals-below =
    (row-below (codes "is") 2 (λ ts next. is_answer (term_at 0 ts) (term_at 1 ts)) (λ ts next n h. value-below next (expression_value (term_at 1 ts)) (λ z. equal (term_at 0 ts) (IntTerm z)) (λ z. equal-below next (term_at 0 ts) (IntTerm z) (term-below 0 next ts (omega arith) h) (omega arith))), (comparison-below (codes "=:=") int_eq, (comparison-below (codes "=\\=") (λ y z. not (int_eq y z)), (comparison-below (codes "<") int_lt, (comparison-below (codes "=<") int_le, (comparison-below (codes ">") (λ y z. int_lt z y), (comparison-below (codes ">=") (λ y z. int_le z y), tt)))))))

-- unification
unification_goals-below : Each IsRowBelow unification_goals
unification_goals-below =
    (row-below (codes "\\=") 2 (λ ts next. apart_answer (term_at 0 ts) (term_at 1 ts)) (λ ts next n h. holds-below next (is_none (unifier ((term_at 0 ts, term_at 1 ts) ∷ [])))), (row-below (codes "unify_with_occurs_check") 2 (λ ts next. equal (term_at 0 ts) (term_at 1 ts)) (λ ts next n h. equal-below next (term_at 0 ts) (term_at 1 ts) (term-below 0 next ts (omega arith) h) (term-below 1 next ts (omega arith) h)), tt))

pub builtins_below : Each IsRowBelow builtins
builtins_below = (
  λ ts next n h. let left = term-below 0 next ts (omega arith) h in let right = term-below 1 next ts (omega arith) h in ((omega arith, tt), tt),
  each-append IsRowBelow unification_goals (type_tests ++ (order_goals ++ (arithmetic_goals ++ (term_parts ++ (atom_goals ++ (part_goals ++ (number_goals ++ sorting_goals))))))) unification_goals-below (each-append IsRowBelow type_tests (order_goals ++ (arithmetic_goals ++ (term_parts ++ (atom_goals ++ (part_goals ++ (number_goals ++ sorting_goals)))))) type_tests-below (each-append IsRowBelow order_goals (arithmetic_goals ++ (term_parts ++ (atom_goals ++ (part_goals ++ (number_goals ++ sorting_goals))))) order_goals-below (each-append IsRowBelow arithmetic_goals (term_parts ++ (atom_goals ++ (part_goals ++ (number_goals ++ sorting_goals)))) arithmetic_goals-below (each-append IsRowBelow term_parts (atom_goals ++ (part_goals ++ (number_goals ++ sorting_goals))) term_parts-below (each-append IsRowBelow atom_goals (part_goals ++ (number_goals ++ sorting_goals)) atom_goals-below (each-append IsRowBelow part_goals (number_goals ++ sorting_goals) part_goals-below (each-append IsRowBelow number_goals sorting_goals number_goals-below sorting_goals-below))))))),
)
