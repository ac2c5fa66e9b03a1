-- Values of terms that are one after another.
use Rattle.std.specs.Prelude.{ℤ, List, [], ◌∷◌, Result, Ok, Err}
use Rattle.au_term.specs.Term.{Term, Terms, end, more}
use Rattle.au_model.specs.Terms.Forms.{indicator}
use Rattle.au_model.specs.Terms.ErrorTerms.{instantiation_error, type_error, evaluation_error}
use Rattle.au_model.specs.Terms.Faults.{evaluation_word}
use Rattle.run_model.specs.Goals.Arithmetic.{Evaluated, expression_value}
use Rattle.std.specs.Prelude.{◌≡◌, codes, map, reverse}
use Rattle.au_model.specs.Terms.Faults.{error_term_of}
use Rattle.arith_eval.specs.declared.evaluation.EvalRefusal.{EvalRefusal}
use Rattle.arith_eval.specs.declared.evaluation.EvalRefusal.TheVariants.{Fault, NoMemory}
use Rattle.arith_eval.specs.declared.evaluation.Problem.{Problem}
use Rattle.arith_eval.specs.declared.evaluation.Problem.TheVariants.{Unbound, NotEvaluable, Evaluation}

abbrev pub problem_term : Problem → Term
problem_term Unbound = instantiation_error
problem_term (NotEvaluable name arity) = type_error (codes "evaluable") (indicator name arity)
problem_term (Evaluation error) = evaluation_error (evaluation_word error)

abbrev pub evaluated : Result ℤ Problem → Evaluated
evaluated (Ok z) = Ok z
evaluated (Err problem) = Err (problem_term problem)

abbrev pub values_of : Terms → List Evaluated
values_of end = []
values_of (more t ts) = expression_value t ∷ values_of ts

-- the stack, its top first, is of the values of these terms
abbrev pub Stacks : List (Result ℤ Problem) → Terms → Type 0
Stacks values ts = map evaluated (reverse values) ≡ values_of ts

-- why an expression has no value
abbrev pub IsRefusal : Evaluated → EvalRefusal → Type 0
IsRefusal v (Fault fault) = v ≡ Err (error_term_of fault)
IsRefusal v NoMemory = Unit {0}
