-- Built-in predicates that look at their arguments alone, one row for each: their solutions or their error, by their
-- arguments and the next number.
use Rattle.std.specs.Prelude.{ℕ, List, [], ◌∷◌, ◌++◌, codes, None}
use Rattle.au_term.specs.Term.{Terms, term_at}
use Rattle.au_model.specs.Terms.Unifier.{Equations}
use Rattle.run_model.specs.Goals.Outcomes.{Reply, Solutions, Replies}
use Rattle.run_model.specs.Goals.Control.{Construct}
use Rattle.run_model.specs.Goals.ArithmeticGoals.{arithmetic_goals}
use Rattle.run_model.specs.Goals.TermTests.{type_tests, order_goals}
use Rattle.run_model.specs.Goals.TermParts.{term_parts}
use Rattle.run_model.specs.Goals.UnificationGoals.{unification_goals}
use Rattle.run_model.specs.Goals.AtomGoals.{atom_goals}
use Rattle.run_model.specs.Goals.AtomParts.{part_goals}
use Rattle.run_model.specs.Goals.NumberTexts.{number_goals}
use Rattle.run_model.specs.Goals.Sorting.{sorting_goals}

abbrev pub builtin : List ℕ → ℕ → (Terms → ℕ → Reply) → Construct
builtin name arity reply = record { name = name; arity = arity; outcome = λ ts next. Replies (reply ts next) }

-- one solution: where the equations unify
abbrev pub holds_where : Equations → Reply
holds_where equations = Solutions ((record { equations = equations; goals = []; removes = None; variables = 0 }) ∷ [])

abbrev pub builtins : List Construct
builtins =
    -- unify (8.2.1)
    builtin (codes "=") 2 (λ ts next. holds_where ((term_at 0 ts, term_at 1 ts) ∷ []))
    ∷ (unification_goals ++ (type_tests ++ (order_goals ++ (arithmetic_goals ++ (term_parts ++ (atom_goals ++ (part_goals ++ (number_goals ++ sorting_goals))))))))
