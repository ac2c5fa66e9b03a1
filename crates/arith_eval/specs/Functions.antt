-- The functions of the code, and what they mean by their names.
use Rattle.std.specs.Prelude.{ℕ, ℤ, cond, List, [], ◌∷◌, Option, Some, None, codes}
use Rattle.au_model.specs.Terms.Forms.{same_name}
use Rattle.run_model.specs.Goals.Arithmetic.{Evaluated, UnaryFunction, BinaryFunction, unary_function, binary_function, undefined}
use Rattle.arith_eval.specs.declared.functions.Unary.{Unary}
use Rattle.arith_eval.specs.declared.functions.Unary.TheVariants.{Plus, Minus, Abs, Sign, Complement}
use Rattle.arith_eval.specs.declared.functions.Binary.{Binary}
use Rattle.arith_eval.specs.declared.functions.Binary.TheVariants.{Add, Subtract, Multiply, Quotient, ExactQuotient, Remainder, Modulo, Min, Max, Power, ShiftLeft, ShiftRight, And, Or}

abbrev pub value_of_unary : Option UnaryFunction → ℤ → Evaluated
value_of_unary (Some f) x = f.value x
value_of_unary None x = undefined

abbrev pub value_of_binary : Option BinaryFunction → ℤ → ℤ → Evaluated
value_of_binary (Some f) x y = f.value x y
value_of_binary None x y = undefined

abbrev pub unary_meaning : Unary → ℤ → Evaluated
unary_meaning Plus x = value_of_unary (unary_function (codes "+")) x
unary_meaning Minus x = value_of_unary (unary_function (codes "-")) x
unary_meaning Abs x = value_of_unary (unary_function (codes "abs")) x
unary_meaning Sign x = value_of_unary (unary_function (codes "sign")) x
unary_meaning Complement x = value_of_unary (unary_function (codes "\\")) x

abbrev pub binary_meaning : Binary → ℤ → ℤ → Evaluated
binary_meaning Add x y = value_of_binary (binary_function (codes "+")) x y
binary_meaning Subtract x y = value_of_binary (binary_function (codes "-")) x y
binary_meaning Multiply x y = value_of_binary (binary_function (codes "*")) x y
binary_meaning Quotient x y = value_of_binary (binary_function (codes "//")) x y
binary_meaning ExactQuotient x y = value_of_binary (binary_function (codes "/")) x y
binary_meaning Remainder x y = value_of_binary (binary_function (codes "rem")) x y
binary_meaning Modulo x y = value_of_binary (binary_function (codes "mod")) x y
binary_meaning Min x y = value_of_binary (binary_function (codes "min")) x y
binary_meaning Max x y = value_of_binary (binary_function (codes "max")) x y
binary_meaning Power x y = value_of_binary (binary_function (codes "^")) x y
binary_meaning ShiftLeft x y = value_of_binary (binary_function (codes "<<")) x y
binary_meaning ShiftRight x y = value_of_binary (binary_function (codes ">>")) x y
binary_meaning And x y = value_of_binary (binary_function (codes "/\\")) x y
binary_meaning Or x y = value_of_binary (binary_function (codes "\\/")) x y

-- what is beside the first of these names that is the given one
abbrev pub named_in : {F : Type 0} → List ℕ → List (List ℕ × F) → Option F
named_in name [] = None
named_in name (row ∷ rows) = cond (same_name row.0 name) (Some row.1) (named_in name rows)
