-- Arithmetic (ISO/IEC 13211-1, 7.9, 9.1, 9.3 and 9.4, with the functions that its second corrigendum adds): expressions
-- have as values the integers of 64 bits.
use Rattle.std.specs.Prelude.{ℕ, suc, ◌^◌, ◌==◌, Bool, nat_lt, if◌then◌else◌, ℤ, pos, negsuc, neg_ℤ, ◌+ℤ◌, ◌-ℤ◌, ◌*ℤ◌, int_div, int_rem, List, [], ◌∷◌, codes, find, Option, Some, None, Result, Ok, Err, unsigned_abs}
use Rattle.std.specs.Int.{w64, int_min, int_max, int_signum, int_pow, int_rem_euclid, int_shr, int_bit_and, int_bit_or, int_bit_not}
use Rattle.au_term.specs.Term.{Term, VarTerm, IntTerm, AtomTerm, Compound, end, more, count}
use Rattle.au_model.specs.Terms.Forms.{same_name, indicator}
use Rattle.au_model.specs.Terms.ErrorTerms.{instantiation_error, type_error, evaluation_error}

-- what an expression comes to: its value, or an error
abbrev pub Evaluated : Type 0
Evaluated = Result ℤ Term

abbrev pub overflow : Evaluated
overflow = Err (evaluation_error (codes "int_overflow"))

abbrev pub zero_divisor : Evaluated
zero_divisor = Err (evaluation_error (codes "zero_divisor"))

abbrev pub undefined : Evaluated
undefined = Err (evaluation_error (codes "undefined"))

-- from -2^63 to 2^63 - 1
abbrev pub is_in_width : ℤ → Bool
is_in_width (pos n) = nat_lt n (2 ^ 63)
is_in_width (negsuc n) = nat_lt n (2 ^ 63)

abbrev pub in_width : ℤ → Evaluated
in_width z = if is_in_width z then Ok z else overflow

abbrev pub is_zero : ℤ → Bool
is_zero z = unsigned_abs z == 0

-- x // y, the quotient towards zero (9.1.3)
abbrev pub quotient : ℤ → ℤ → Evaluated
quotient x y = if is_zero y then zero_divisor else in_width (int_div x y)

-- x rem y, with the sign of x (9.1.3)
abbrev pub remainder : ℤ → ℤ → Evaluated
remainder x y = if is_zero y then zero_divisor else Ok (int_rem x y)

-- x - floor(x / y) * y: from 0 up to y, or, for a negative y, from 0 down to it
abbrev pub modulus : ℤ → ℤ → ℤ
modulus x (pos n) = int_rem_euclid x (pos n)
modulus x (negsuc n) = neg_ℤ (int_rem_euclid (neg_ℤ x) (pos (suc n)))

-- x mod y (9.1.3)
abbrev pub modulo : ℤ → ℤ → Evaluated
modulo x y = if is_zero y then zero_divisor else Ok (modulus x y)

-- x / y, where it is an integer (9.1.3)
abbrev pub exact_quotient : ℤ → ℤ → Evaluated
exact_quotient x y = if is_zero y then zero_divisor else if is_zero (int_rem x y) then in_width (int_div x y) else undefined

-- x to the power y, where it is an integer (9.3.1 and 9.3.10)
abbrev pub power : ℤ → ℤ → Evaluated
power x (pos n) = in_width (int_pow x n)
power x (negsuc n) = if unsigned_abs x == 1 then Ok (int_pow x (suc n)) else undefined

-- x times 2 to the power n; for a negative n, the floor of it (9.4.1 and 9.4.2)
abbrev pub shifted : ℤ → ℤ → Evaluated
shifted x (pos n) = in_width (x *ℤ pos (2 ^ n))
shifted x (negsuc n) = Ok (int_shr x (suc n))

pub record UnaryFunction : Type 0 where
  pub name : List ℕ
  pub value : ℤ → Evaluated

pub record BinaryFunction : Type 0 where
  pub name : List ℕ
  pub value : ℤ → ℤ → Evaluated

abbrev pub unary_functions : List UnaryFunction
unary_functions =
    record { name = codes "+"; value = λ x. Ok x }
    ∷ record { name = codes "-"; value = λ x. in_width (neg_ℤ x) }
    ∷ record { name = codes "abs"; value = λ x. in_width (pos (unsigned_abs x)) }
    ∷ record { name = codes "sign"; value = λ x. Ok (int_signum x) }
    ∷ record { name = codes "\\"; value = λ x. Ok (int_bit_not w64 x) }
    ∷ []

abbrev pub binary_functions : List BinaryFunction
binary_functions =
    record { name = codes "+"; value = λ x y. in_width (x +ℤ y) }
    ∷ record { name = codes "-"; value = λ x y. in_width (x -ℤ y) }
    ∷ record { name = codes "*"; value = λ x y. in_width (x *ℤ y) }
    ∷ record { name = codes "//"; value = quotient }
    ∷ record { name = codes "/"; value = exact_quotient }
    ∷ record { name = codes "rem"; value = remainder }
    ∷ record { name = codes "mod"; value = modulo }
    ∷ record { name = codes "min"; value = λ x y. Ok (int_min x y) }
    ∷ record { name = codes "max"; value = λ x y. Ok (int_max x y) }
    ∷ record { name = codes "**"; value = power }
    ∷ record { name = codes "^"; value = power }
    ∷ record { name = codes "<<"; value = λ x y. shifted x y }
    ∷ record { name = codes ">>"; value = λ x y. shifted x (neg_ℤ y) }
    ∷ record { name = codes "/\\"; value = λ x y. Ok (int_bit_and w64 x y) }
    ∷ record { name = codes "\\/"; value = λ x y. Ok (int_bit_or w64 x y) }
    ∷ []

abbrev pub unary_function : List ℕ → Option UnaryFunction
unary_function name = find (λ f. same_name f.name name) unary_functions

abbrev pub binary_function : List ℕ → Option BinaryFunction
binary_function name = find (λ f. same_name f.name name) binary_functions

abbrev pub not_evaluable : List ℕ → ℕ → Evaluated
not_evaluable name arity = Err (type_error (codes "evaluable") (indicator name arity))

-- the value where there is one, gone on with
abbrev pub then_value : Evaluated → (ℤ → Evaluated) → Evaluated
then_value (Ok x) f = f x
then_value (Err e) f = Err e

abbrev pub unary_value : List ℕ → Option UnaryFunction → Evaluated → Evaluated
unary_value name (Some f) x = then_value x f.value
unary_value name None x = not_evaluable name 1

abbrev pub binary_value : List ℕ → Option BinaryFunction → Evaluated → Evaluated → Evaluated
binary_value name (Some f) x y = then_value x (λ m. then_value y (λ n. f.value m n))
binary_value name None x y = not_evaluable name 2

-- The value of an expression. What is no evaluable is refused before its arguments are evaluated, these are evaluated
-- from the left, and the function comes last (7.9.2).
abbrev pub expression_value : Term → Evaluated
expression_value (VarTerm n) = Err instantiation_error
expression_value (IntTerm z) = Ok z
expression_value (AtomTerm a) = not_evaluable a 0
expression_value (Compound f (more a end)) = unary_value f (unary_function f) (expression_value a)
expression_value (Compound f (more a (more b end))) = binary_value f (binary_function f) (expression_value a) (expression_value b)
expression_value (Compound f ts) = not_evaluable f (count ts)
