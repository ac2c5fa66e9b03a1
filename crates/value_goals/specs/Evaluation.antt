-- Expressions that are evaluated from the left, with the functions that wait for a value.
use Rattle.std.specs.Prelude.{◌≡◌, ℕ, ◌+◌, ◌*◌, ◌<◌, ℤ, List, [], ◌∷◌, Result, Ok, Err}
use Rattle.au_model.specs.Terms.Unifier.{size}
use Rattle.run_model.specs.Goals.Arithmetic.{Evaluated, then_value, expression_value}
use Rattle.arith_eval.specs.Functions.{unary_meaning, binary_meaning}
use Rattle.arith_eval.specs.Evaluating.{problem_term}
use Rattle.arith_eval.specs.declared.evaluation.Problem.{Problem}
use Rattle.binding_array.specs.declared.cell.BindingCell.{BindingCell}
use Rattle.cell_store.specs.StoreView.{StoreView, IsValueIn, meaning}
use Rattle.value_goals.specs.declared.evaluation.Waiting.{Waiting}
use Rattle.value_goals.specs.declared.evaluation.Waiting.TheVariants.{One, First, Second}
use Rattle.value_goals.specs.declared.evaluation.Next.{Next}
use Rattle.value_goals.specs.declared.evaluation.Next.TheVariants.{Expression, Value}

-- what a value stands for, evaluated
abbrev pub evaluated_in : StoreView → BindingCell → Evaluated
evaluated_in st c = expression_value (meaning st c)

-- the second argument, with the value of the first one
abbrev pub with_first : StoreView → (ℤ → ℤ → Evaluated) → ℤ → BindingCell → Evaluated
with_first st f x c = then_value (evaluated_in st c) (f x)

-- what a function makes of the value for which it waits
abbrev pub function_resumed : StoreView → Waiting → Evaluated → Evaluated
function_resumed st (One f) v = then_value v (unary_meaning f)
function_resumed st (First f c) v = then_value v (λ x. with_first st (binary_meaning f) x c)
function_resumed st (Second f x) v = then_value v (binary_meaning f x)

-- what all that wait make of it, the last one first
abbrev pub functions_resumed : StoreView → List Waiting → Evaluated → Evaluated
functions_resumed st [] v = v
functions_resumed st (w ∷ ws) v = functions_resumed st ws (function_resumed st w v)

abbrev pub value_of_next : StoreView → Next → Evaluated
value_of_next st (Expression c) = evaluated_in st c
value_of_next st (Value z) = Ok z

-- the expressions are values of the store
abbrev pub IsNextIn : StoreView → Next → Type 0
IsNextIn st (Expression c) = IsValueIn st c
IsNextIn st (Value z) = Unit {0}

abbrev pub IsWaitingIn : StoreView → Waiting → Type 0
IsWaitingIn st (One f) = Unit {0}
IsWaitingIn st (First f c) = IsValueIn st c
IsWaitingIn st (Second f x) = Unit {0}

abbrev pub AllWaitingIn : StoreView → List Waiting → Type 0
AllWaitingIn st [] = Unit {0}
AllWaitingIn st (w ∷ ws) = IsWaitingIn st w × AllWaitingIn st ws

-- more than the steps that are left
abbrev pub evaluation_steps : StoreView → BindingCell → ℕ
evaluation_steps st c = 3 * size (meaning st c)

abbrev pub steps_of_next : StoreView → Next → ℕ
steps_of_next st (Expression c) = evaluation_steps st c
steps_of_next st (Value z) = 0

abbrev pub waiting_steps : StoreView → Waiting → ℕ
waiting_steps st (One f) = 1
waiting_steps st (First f c) = evaluation_steps st c + 2
waiting_steps st (Second f x) = 1

abbrev pub steps_of_all : StoreView → List Waiting → ℕ
steps_of_all st [] = 0
steps_of_all st (w ∷ ws) = waiting_steps st w + steps_of_all st ws

-- in the place of what has this value something comes that leads to the same, by fewer steps
pub record StepsOn (st : StoreView) (v : Evaluated) (steps : ℕ) (old new : List Waiting) (next : Next) : Type 0 where
  pub same : functions_resumed st new (value_of_next st next) ≡ functions_resumed st old v
  pub fewer : steps_of_next st next + steps_of_all st new < steps + steps_of_all st old
  pub next_there : IsNextIn st next
  pub there : AllWaitingIn st old → AllWaitingIn st new

-- it goes on, or the value is an error
abbrev pub StepsTo : StoreView → Evaluated → ℕ → List Waiting → List Waiting → Result Next Problem → Type 0
StepsTo st v steps old new (Ok next) = StepsOn st v steps old new next
StepsTo st v steps old new (Err problem) = v ≡ Err (problem_term problem)

-- the expression that a value stands for was begun
abbrev pub IsBegun : StoreView → BindingCell → List Waiting → List Waiting → Result Next Problem → Type 0
IsBegun st c old new result = StepsTo st (evaluated_in st c) (evaluation_steps st c) old new result
