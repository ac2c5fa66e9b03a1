-- A table of which variables were seen.
use Rattle.std.specs.Prelude.{ℕ, zero, suc, Bool, List, [], ◌∷◌, ◌++◌}

-- what a test tells of each number below another
abbrev pub told_below : (ℕ → Bool) → ℕ → List Bool
told_below test zero = []
told_below test (suc n) = told_below test n ++ test n ∷ []
