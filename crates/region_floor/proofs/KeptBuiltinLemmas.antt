-- No solution of a built-in predicate removes a clause.
use Rattle.std.proofs.Common.{ℕ, Bool, ℤ, List, [], ◌∷◌, ◌++◌, Ok, Err, refl}
use Rattle.std.specs.Prelude.{codes, is_none, not, int_lt, int_le}
use Rattle.std.specs.Ordering.{int_eq, is_eq, is_ne, is_lt, is_le, is_gt, is_ge}
use Rattle.std.specs.declared.cmp.Ordering.{Ordering}
use Rattle.au_term.specs.Term.{Term, VarTerm, IntTerm, AtomTerm, Compound, Terms, term_at}
use Rattle.au_model.specs.Terms.Each.{Each}
use Rattle.au_model.specs.Terms.Unifier.{unifier}
use Rattle.au_model.specs.Terms.ErrorTerms.{domain_error}
use Rattle.au_model.specs.Terms.Forms.{is_callable, list_term}
use Rattle.au_model.proofs.EachLemmas.{each-append}
use Rattle.run_model.specs.Goals.BuiltinAnswers.{Answer, equal, holds_if, predicate}
use Rattle.run_model.specs.Goals.ListForms.{list_form}
use Rattle.run_model.specs.Goals.Arithmetic.{Evaluated, expression_value}
use Rattle.run_model.specs.Goals.ArithmeticGoals.{with_value, is_answer, comparison_answer, comparison, arithmetic_goals}
use Rattle.run_model.specs.Goals.StandardOrder.{order}
use Rattle.run_model.specs.Goals.TermTests.{is_variable, is_integer, is_atom, is_compound, is_atomic, is_ground, test_row, type_tests, order_row, order_symbol, is_order_symbol, compare_answer, order_goals}
use Rattle.run_model.specs.Goals.TermParts.{term_parts}
use Rattle.run_model.specs.Goals.UnificationGoals.{apart_answer, unification_goals}
use Rattle.run_model.specs.Goals.AtomGoals.{with_each, atom_length_answer, char_code_answer, CharacterList, ByCharacters, ByCodes, spelling_answer, atom_goals}
use Rattle.run_model.specs.Goals.AtomParts.{PartArguments, atom_concat_answer, sub_atom_answer, part_goals}
use Rattle.run_model.specs.Goals.NumberTexts.{number_text_answer, number_goals}
use Rattle.run_model.specs.Goals.Sorting.{is_pair_term, no_pair, sorted_by, is_key_before, sorted_terms, sort_answer, keysort_answer, sorting_goals}
use Rattle.run_model.specs.Goals.Builtins.{builtins}
use Rattle.run_model.proofs.AtomGoalPlainLemmas.{length-plain, code-plain, spelling-plain}
use Rattle.run_model.proofs.AtomPartPlainLemmas.{atom_concat-plain, sub_atom-plain}
use Rattle.run_model.proofs.NumberTextPlainLemmas.{number_text-plain}
use Rattle.run_model.proofs.SortingLemmas.{each-kept, into-kept}
use Rattle.region_floor.proofs.KeptAnswerLemmas.{IsRowKept, IsKept, row-kept, holds-kept, either-kept, plain-kept}
use Rattle.region_floor.proofs.KeptTermLemmas.{term_parts-kept}

-- unification, tests and order
unification-kept : Each IsRowKept unification_goals
unification-kept = (
  row-kept (codes "\\=") 2 (λ ts next. apart_answer (term_at 0 ts) (term_at 1 ts))
      (λ ts next. holds-kept (is_none (unifier ((term_at 0 ts, term_at 1 ts) ∷ [])))),
  (λ ts next. (refl, tt), tt),
)

test-kept : (name : List ℕ) (test : Term → Bool) → IsRowKept (test_row name test)
test-kept name test = row-kept name 1 (λ ts next. holds_if (test (term_at 0 ts))) (λ ts next. holds-kept (test (term_at 0 ts)))

tests-kept : Each IsRowKept type_tests
tests-kept = (
  test-kept (codes "var") is_variable,
  (
    test-kept (codes "nonvar") (λ t. not (is_variable t)),
    (
      test-kept (codes "atom") is_atom,
      (
        test-kept (codes "integer") is_integer,
        (
          test-kept (codes "number") is_integer,
          (
            test-kept (codes "atomic") is_atomic,
            (test-kept (codes "compound") is_compound, (test-kept (codes "callable") is_callable, (test-kept (codes "ground") is_ground, tt))),
          ),
        ),
      ),
    ),
  ),
)

order-kept : (name : List ℕ) (test : Ordering → Bool) → IsRowKept (order_row name test)
order-kept name test =
    row-kept name 2 (λ ts next. holds_if (test (order (term_at 0 ts) (term_at 1 ts))))
    (λ ts next. holds-kept (test (order (term_at 0 ts) (term_at 1 ts))))

compare-kept : (o a b : Term) → IsKept (compare_answer o a b)
compare-kept (VarTerm n) a b = (refl, tt)
compare-kept (IntTerm z) a b = tt
compare-kept (AtomTerm o) a b =
    either-kept (is_order_symbol o) (equal (AtomTerm o) (AtomTerm (order_symbol (order a b)))) (Err (domain_error (codes "order") (AtomTerm o)))
    (refl, tt) tt
compare-kept (Compound f ts) a b = tt

orders-kept : Each IsRowKept order_goals
orders-kept = (
  order-kept (codes "==") is_eq,
  (
    order-kept (codes "\\==") is_ne,
    (
      order-kept (codes "@<") is_lt,
      (
        order-kept (codes "@=<") is_le,
        (
          order-kept (codes "@>") is_gt,
          (
            order-kept (codes "@>=") is_ge,
            (
              row-kept (codes "compare") 3 (λ ts next. compare_answer (term_at 0 ts) (term_at 1 ts) (term_at 2 ts))
                  (λ ts next. compare-kept (term_at 0 ts) (term_at 1 ts) (term_at 2 ts)),
              tt,
            ),
          ),
        ),
      ),
    ),
  ),
)

-- arithmetic
value-kept : (v : Evaluated) (answer : ℤ → Answer) → ((z : ℤ) → IsKept (answer z)) → IsKept (with_value v answer)
value-kept (Ok z) answer h = h z
value-kept (Err e) answer h = tt

comparison-kept : (name : List ℕ) (test : ℤ → ℤ → Bool) → IsRowKept (comparison name test)
comparison-kept name test =
    row-kept name 2 (λ ts next. comparison_answer test (term_at 0 ts) (term_at 1 ts))
    (λ ts next. value-kept (expression_value (term_at 0 ts)) (λ y. with_value (expression_value (term_at 1 ts)) (λ z. holds_if (test y z)))
    (λ y. value-kept (expression_value (term_at 1 ts)) (λ z. holds_if (test y z)) (λ z. holds-kept (test y z))))

arithmetic-kept : Each IsRowKept arithmetic_goals
arithmetic-kept = (
  row-kept (codes "is") 2 (λ ts next. is_answer (term_at 0 ts) (term_at 1 ts))
      (λ ts next. value-kept (expression_value (term_at 1 ts)) (λ z. equal (term_at 0 ts) (IntTerm z)) (λ z. (refl, tt))),
  (
    comparison-kept (codes "=:=") int_eq,
    (
      comparison-kept (codes "=\\=") (λ y z. not (int_eq y z)),
      (
        comparison-kept (codes "<") int_lt,
        (
          comparison-kept (codes "=<") int_le,
          (comparison-kept (codes ">") (λ y z. int_lt z y), (comparison-kept (codes ">=") (λ y z. int_le z y), tt)),
        ),
      ),
    ),
  ),
)

-- atoms, numbers and lists
spelled-kept : (name : List ℕ) (by : CharacterList) → IsRowKept (predicate name 2 (λ ts next. spelling_answer by (term_at 0 ts) (term_at 1 ts)))
spelled-kept name by =
    row-kept name 2 (λ ts next. spelling_answer by (term_at 0 ts) (term_at 1 ts))
    (λ ts next. plain-kept (spelling_answer by (term_at 0 ts) (term_at 1 ts)) (spelling-plain (λ t. Unit {0}) by (term_at 0 ts) (term_at 1 ts) tt tt))

atoms-kept : Each IsRowKept atom_goals
atoms-kept = (
  row-kept (codes "atom_length") 2 (λ ts next. atom_length_answer (term_at 0 ts) (term_at 1 ts))
      (λ ts next. plain-kept (atom_length_answer (term_at 0 ts) (term_at 1 ts)) (length-plain (λ t. Unit {0}) (term_at 0 ts) (term_at 1 ts) tt)),
  (
    row-kept (codes "char_code") 2 (λ ts next. char_code_answer (term_at 0 ts) (term_at 1 ts))
        (λ ts next. plain-kept (char_code_answer (term_at 0 ts) (term_at 1 ts)) (code-plain (λ t. Unit {0}) (term_at 0 ts) (term_at 1 ts) tt tt)),
    (spelled-kept (codes "atom_chars") ByCharacters, (spelled-kept (codes "atom_codes") ByCodes, tt)),
  ),
)

abbrev part_arguments : Terms → PartArguments
part_arguments ts = record { before = term_at 1 ts; length = term_at 2 ts; after = term_at 3 ts; text = term_at 4 ts }

atom_parts-kept : Each IsRowKept part_goals
atom_parts-kept = (
  row-kept (codes "atom_concat") 3 (λ ts next. atom_concat_answer (term_at 0 ts) (term_at 1 ts) (term_at 2 ts))
      (λ ts next. plain-kept (atom_concat_answer (term_at 0 ts) (term_at 1 ts) (term_at 2 ts))
      (atom_concat-plain (λ t. Unit {0}) (term_at 0 ts) (term_at 1 ts) (term_at 2 ts) tt tt tt)),
  (
    row-kept (codes "sub_atom") 5 (λ ts next. sub_atom_answer (term_at 0 ts) (part_arguments ts))
        (λ ts next. plain-kept (sub_atom_answer (term_at 0 ts) (part_arguments ts))
        (sub_atom-plain (λ t. Unit {0}) (λ b l e s h k j i. tt) (term_at 0 ts) (part_arguments ts)
        (record { before = tt; length = tt; after = tt; text = tt }))),
    tt,
  ),
)

number-kept : (name : List ℕ) (by : CharacterList) → IsRowKept (predicate name 2 (λ ts next. number_text_answer by (term_at 0 ts) (term_at 1 ts)))
number-kept name by =
    row-kept name 2 (λ ts next. number_text_answer by (term_at 0 ts) (term_at 1 ts))
    (λ ts next. plain-kept (number_text_answer by (term_at 0 ts) (term_at 1 ts)) (number_text-plain (λ t. Unit {0}) by (term_at 0 ts) (term_at 1 ts) tt tt))

sort-kept : (l s : Term) → IsKept (sort_answer l s)
sort-kept l s =
    into-kept IsKept (λ e. tt) (λ ts. Unit {0}) l s (list_form l) (list_form s) (λ ts. equal s (list_term (sorted_terms ts)))
    (λ ts e. tt) (λ ts h. (refl, tt))

keysort-kept : (l s : Term) → IsKept (keysort_answer l s)
keysort-kept l s =
    into-kept IsKept (λ e. tt) (λ ts. Unit {0}) l s (list_form l) (list_form s)
    (λ ts. with_each is_pair_term no_pair ts (equal s (list_term (sorted_by is_key_before ts)))) (λ ts e. tt)
    (λ ts h. each-kept IsKept (λ e. tt) is_pair_term no_pair ts (equal s (list_term (sorted_by is_key_before ts))) (refl, tt))

sorting-kept : Each IsRowKept sorting_goals
sorting-kept = (
  row-kept (codes "sort") 2 (λ ts next. sort_answer (term_at 0 ts) (term_at 1 ts)) (λ ts next. sort-kept (term_at 0 ts) (term_at 1 ts)),
  (row-kept (codes "keysort") 2 (λ ts next. keysort_answer (term_at 0 ts) (term_at 1 ts)) (λ ts next. keysort-kept (term_at 0 ts) (term_at 1 ts)), tt),
)

pub builtins_kept : Each IsRowKept builtins
builtins_kept =
    let texts = each-append IsRowKept number_goals sorting_goals (number-kept (codes "number_chars") ByCharacters, (number-kept (codes "number_codes") ByCodes, tt)) sorting-kept in
    let atoms = each-append IsRowKept atom_goals (part_goals ++ (number_goals ++ sorting_goals)) atoms-kept (each-append IsRowKept part_goals (number_goals ++ sorting_goals) atom_parts-kept texts) in
    let terms = each-append IsRowKept term_parts (atom_goals ++ (part_goals ++ (number_goals ++ sorting_goals))) term_parts-kept atoms in
    let numbers = each-append IsRowKept arithmetic_goals (term_parts ++ (atom_goals ++ (part_goals ++ (number_goals ++ sorting_goals)))) arithmetic-kept terms in
    let orders = each-append IsRowKept order_goals (arithmetic_goals ++ (term_parts ++ (atom_goals ++ (part_goals ++ (number_goals ++ sorting_goals))))) orders-kept numbers in
    let tests = each-append IsRowKept type_tests (order_goals ++ (arithmetic_goals ++ (term_parts ++ (atom_goals ++ (part_goals ++ (number_goals ++ sorting_goals)))))) tests-kept orders in (
      λ ts next. (refl, tt),
      each-append IsRowKept unification_goals (type_tests ++ (order_goals ++ (arithmetic_goals ++ (term_parts ++ (atom_goals ++ (part_goals ++ (number_goals ++ sorting_goals))))))) unification-kept tests,
    )
