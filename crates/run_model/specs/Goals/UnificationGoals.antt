-- Goals that ask whether terms unify (ISO/IEC 13211-1, 8.2.2 and 8.2.3). Unification makes the occurs check always.
use Rattle.std.specs.Prelude.{List, [], ◌∷◌, codes, is_none}
use Rattle.au_term.specs.Term.{Term, term_at}
use Rattle.au_model.specs.Terms.Unifier.{unifier}
use Rattle.run_model.specs.Goals.Control.{Construct}
use Rattle.run_model.specs.Goals.BuiltinAnswers.{Answer, equal, holds_if, predicate}

-- T \= U
abbrev pub apart_answer : Term → Term → Answer
apart_answer a b = holds_if (is_none (unifier ((a, b) ∷ [])))

abbrev pub unification_goals : List Construct
unification_goals =
    predicate (codes "\\=") 2 (λ ts next. apart_answer (term_at 0 ts) (term_at 1 ts))
    ∷ predicate (codes "unify_with_occurs_check") 2 (λ ts next. equal (term_at 0 ts) (term_at 1 ts))
    ∷ []
