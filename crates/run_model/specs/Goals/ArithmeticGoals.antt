-- Goals that evaluate (ISO/IEC 13211-1, 8.6 and 8.7).
use Rattle.std.specs.Prelude.{ℕ, Bool, not, ℤ, List, [], ◌∷◌, codes, Ok, Err, int_lt, int_le}
use Rattle.std.specs.Ordering.{int_eq}
use Rattle.au_term.specs.Term.{Term, IntTerm, term_at}
use Rattle.run_model.specs.Goals.Control.{Construct}
use Rattle.run_model.specs.Goals.BuiltinAnswers.{Answer, equal, holds_if, predicate}
use Rattle.run_model.specs.Goals.Arithmetic.{Evaluated, expression_value}

-- the answer for a value, or the error of having none
abbrev pub with_value : Evaluated → (ℤ → Answer) → Answer
with_value (Ok z) answer = answer z
with_value (Err e) answer = Err e

-- X is E
abbrev pub is_answer : Term → Term → Answer
is_answer x e = with_value (expression_value e) (λ z. equal x (IntTerm z))

-- the left expression first
abbrev pub comparison_answer : (ℤ → ℤ → Bool) → Term → Term → Answer
comparison_answer test a b = with_value (expression_value a) (λ y. with_value (expression_value b) (λ z. holds_if (test y z)))

abbrev pub comparison : List ℕ → (ℤ → ℤ → Bool) → Construct
comparison name test = predicate name 2 (λ ts next. comparison_answer test (term_at 0 ts) (term_at 1 ts))

abbrev pub arithmetic_goals : List Construct
arithmetic_goals =
    predicate (codes "is") 2 (λ ts next. is_answer (term_at 0 ts) (term_at 1 ts))
    ∷ comparison (codes "=:=") int_eq
    ∷ comparison (codes "=\\=") (λ y z. not (int_eq y z))
    ∷ comparison (codes "<") int_lt
    ∷ comparison (codes "=<") int_le
    ∷ comparison (codes ">") (λ y z. int_lt z y)
    ∷ comparison (codes ">=") (λ y z. int_le z y)
    ∷ []
