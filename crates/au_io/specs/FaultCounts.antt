-- What the outside gave and took, and why it failed.
use Rattle.std.specs.Prelude.{◌≡◌, ℕ, ◌+◌, ◌-◌, ◌^◌, ◌≤◌, min, List, ◌++◌, Result, OnErr, take, Option, Some, None}

-- a count that has gone up by so many, and stops at the greatest number
abbrev pub increased_count : ℕ → ℕ → ℕ
increased_count n before = min (before + n) (2 ^ 64 - 1)

-- a count went up by so many or more, or is at the greatest number
abbrev pub IncreasedBy : ℕ → ℕ → ℕ → Type 0
IncreasedBy n before now = increased_count n before ≤ now

abbrev pub Increased : ℕ → ℕ → Type 0
Increased before now = IncreasedBy 1 before now

-- a count of faults never falls, and a call fails only where it rose
pub record HasCause {T E : Type 0} (before now : ℕ) (result : Result T E) : Type 0 where
  pub later : before ≤ now
  pub failed : OnErr result (Increased before now)

-- where the bytes are told: they grew by these
abbrev pub Appended : Option (List ℕ) → Option (List ℕ) → List ℕ → Type 0
Appended None now bytes = Unit {0}
Appended (Some old) now bytes = now ≡ Some (old ++ bytes)

-- they grew by a front of these
abbrev pub AppendedPrefix : Option (List ℕ) → Option (List ℕ) → List ℕ → Type 0
AppendedPrefix None now bytes = Unit {0}
AppendedPrefix (Some old) now bytes = (n : ℕ) × (now ≡ Some (old ++ take n bytes))
