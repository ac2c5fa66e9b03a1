-- Expressions whose values are found without any that waits.
use Rattle.std.specs.Prelude.{◌≡◌, ℤ, Bool, true, false, Ok}
use Rattle.au_term.specs.Term.{Term, IntTerm, Compound, end, more}
use Rattle.run_model.specs.Goals.Arithmetic.{expression_value}

-- an integer, or a compound of one or two integers
abbrev pub is_short : Term → Bool
is_short (IntTerm z) = true
is_short (Compound f (more (IntTerm x) end)) = true
is_short (Compound f (more (IntTerm x) (more (IntTerm y) end))) = true
is_short t = false

-- what is no such expression, or has no value
abbrev pub HasNoShortValue : Term → Type 0
HasNoShortValue t = is_short t ≡ true → (z : ℤ) → expression_value t ≡ Ok z → ⊥
