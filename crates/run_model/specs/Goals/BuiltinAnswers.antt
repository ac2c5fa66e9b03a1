-- What a built-in predicate comes to: its solutions in order, or an error without the goal that raised it.
use Rattle.std.specs.Prelude.{ℕ, Bool, true, false, List, [], ◌∷◌, Result, Ok, Err, None}
use Rattle.au_term.specs.Term.{Term, Terms}
use Rattle.au_model.specs.Terms.Unifier.{Equations}
use Rattle.au_model.specs.Terms.ErrorTerms.{error_term}
use Rattle.run_model.specs.Goals.Outcomes.{Solution, Reply, Solutions, Ball, Replies}
use Rattle.run_model.specs.Goals.Control.{Construct}

abbrev pub Answer : Type 0
Answer = Result (List Solution) Term

-- one solution: where the equations unify
abbrev pub one_solution : Equations → Answer
one_solution equations = Ok (record { equations = equations; goals = []; removes = None; variables = 0 } ∷ [])

abbrev pub equal : Term → Term → Answer
equal a b = one_solution ((a, b) ∷ [])

-- a test holds once or fails
abbrev pub holds_if : Bool → Answer
holds_if true = one_solution []
holds_if false = Ok []

-- the error term has the name and number of arguments of the goal that raised it (7.12.2)
abbrev pub reply_of : List ℕ → ℕ → Answer → Reply
reply_of name arity (Ok solutions) = Solutions solutions
reply_of name arity (Err e) = Ball (error_term e name arity)

-- a row of the table of built-in predicates
abbrev pub predicate : List ℕ → ℕ → (Terms → ℕ → Answer) → Construct
predicate name arity answer = record { name = name; arity = arity; outcome = λ ts next. Replies (reply_of name arity (answer ts next)) }
