-- Characters of the code.
use lib.Utf8.{scalar}
use Rattle.std.specs.Prelude.{◌≡◌, ℕ, true, ℤ, pos}

-- a number is the code of a character
abbrev pub IsCharacterOf : ℤ → ℕ → Type 0
IsCharacterOf code c = (code ≡ pos c) × (scalar c ≡ true)
