-- What closed alternatives have left after.
use Rattle.std.specs.Prelude.{ℕ, ◌+◌, min, List, [], ◌∷◌, ◌++◌}
use Rattle.au_term.specs.Term.{Term}

-- inferences and answers taken, and what was collected for the nearest findall above, in order
pub record Credit : Type 0 where
  pub inferences : ℕ
  pub answers : ℕ
  pub records : List Term

abbrev pub no_credit : Credit
no_credit = record { inferences = 0; answers = 0; records = [] }

-- the greatest number that a count is kept at
abbrev pub greatest : ℕ
greatest = 18446744073709551615

abbrev pub counted : ℕ → ℕ → ℕ
counted a b = min greatest (a + b)

-- credits add from left to right
abbrev pub added : Credit → Credit → Credit
added a b = record {
  inferences = counted a.inferences b.inferences;
  answers = counted a.answers b.answers;
  records = a.records
      ++ b.records;
}

abbrev pub credit_of : ℕ → Credit
credit_of n = record { inferences = n; answers = 0; records = [] }

abbrev pub credit_with : ℕ → Term → Credit
credit_with n t = record { inferences = n; answers = 0; records = t ∷ [] }

abbrev pub without_records : Credit → Credit
without_records c = record { inferences = c.inferences; answers = c.answers; records = [] }
