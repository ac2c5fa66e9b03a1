-- The words of a command.
use Rattle.std.specs.Prelude.{ℕ, Bool, ◌&&◌, cond, nat_lt, List, [], ◌∷◌, length, Option, Some, None}
use Rattle.std.specs.Str.{all_ascii_digits}
use Rattle.std.specs.Str.Parse.{digits_value}

-- the name of a text, and the budget in inferences
pub record Asked : Type 0 where
  pub file : List ℕ
  pub budget : ℕ

-- 1 to 10 decimal digits with a value from 1 to 4,294,967,295
abbrev pub is_budget : List ℕ → Bool
is_budget word = all_ascii_digits word && (nat_lt 0 (length word) && (nat_lt (length word) 11 && (nat_lt 0 (digits_value 10 word) && nat_lt (digits_value 10 word) 4294967296)))

-- the program's name, FILE and BUDGET
abbrev pub asked_by : List (List ℕ) → Option Asked
asked_by (program ∷ file ∷ budget ∷ []) = cond (is_budget budget) (Some (record { file = file; budget = digits_value 10 budget })) None
asked_by [] = None
asked_by (program ∷ []) = None
asked_by (program ∷ file ∷ []) = None
asked_by (program ∷ file ∷ budget ∷ more ∷ words) = None
