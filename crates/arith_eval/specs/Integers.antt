-- What operations on 64 bits answer.
use Rattle.std.specs.Prelude.{ℕ, Bool, true, false, ℤ, pos, neg_ℤ, Result, Ok, Err}
use Rattle.au_model.specs.Terms.ErrorTerms.{evaluation_error}
use Rattle.au_model.specs.Terms.Faults.{evaluation_word}
use Rattle.run_model.specs.Goals.Arithmetic.{Evaluated}
use Rattle.au_model.specs.declared.fault.EvalName.{EvalName}

abbrev pub outcome : Result ℤ EvalName → Evaluated
outcome (Ok z) = Ok z
outcome (Err error) = Err (evaluation_error (evaluation_word error))

abbrev pub with_sign : Bool → ℕ → ℤ
with_sign false n = pos n
with_sign true n = neg_ℤ (pos n)
