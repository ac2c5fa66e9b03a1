-- Numerals (ISO/IEC 13211-1, 6.4.4), of at most 9223372036854775808.
use Rattle.std.specs.Prelude.{ℕ, ◌^◌, Bool, ◌&&◌, ◌==◌, nat_le, List, [], ◌∷◌, drop, Option, Some, None, if◌then◌else◌}
use Rattle.std.specs.Str.Parse.{digits_value}
use Rattle.au_model.specs.Syntax.Characters.{is_digit_of, first_passes, first_is, run, after_run}
use Rattle.au_model.specs.Syntax.Quoted.{Part, StandsFor, escape}

-- a number and what is left after its numeral, or what is wrong; an escape that is none is named by its place
pub data Numeral : Type 0 where
  NumeralThen : ℕ → List ℕ → Numeral
  FloatingPoint : Numeral
  TooWide : Numeral
  WrongCharacter : List ℕ → Numeral

abbrev pub within_width : ℕ → List ℕ → Numeral
within_width n rest = if nat_le n (2 ^ 63) then NumeralThen n rest else TooWide

-- the longest run of digits of this base
abbrev pub digits_numeral : ℕ → List ℕ → Numeral
digits_numeral base cs = within_width (digits_value base (run (is_digit_of base) cs)) (after_run (is_digit_of base) cs)

-- a point and a digit
abbrev pub begins_fraction : List ℕ → Bool
begins_fraction cs = first_is 46 cs && first_passes (is_digit_of 10) (drop 1 cs)

abbrev pub decimal_numeral : List ℕ → Numeral
decimal_numeral cs = if begins_fraction (after_run (is_digit_of 10) cs) then FloatingPoint else digits_numeral 10 cs

-- the base that `x`, `o` or `b` after a `0` names, where a digit of that base follows
abbrev pub named_base : List ℕ → Option ℕ
named_base cs =
    if first_is 120 cs && first_passes (is_digit_of 16) (drop 1 cs) then Some 16
    else if first_is 111 cs && first_passes (is_digit_of 8) (drop 1 cs) then Some 8
    else if first_is 98 cs && first_passes (is_digit_of 2) (drop 1 cs) then Some 2
    else None

-- an escape, where one is due that stands for a character
abbrev pub character_escape : List ℕ → Part → Numeral
character_escape from (StandsFor d rest) = NumeralThen d rest
character_escape from _ = WrongCharacter from

-- what is after `0'`: the quote doubled, an escape, or any other character but a quote
abbrev pub character_numeral : List ℕ → Option Numeral
character_numeral [] = None
character_numeral (c ∷ cs) =
    if c == 39 then (if first_is 39 cs then Some (NumeralThen 39 (drop 1 cs)) else None)
    else if c == 92 then Some (character_escape (c ∷ cs) (escape cs))
    else Some (NumeralThen c cs)

-- the letter of a base and digits, or a quote and a character
abbrev pub based_numeral : Option ℕ → List ℕ → Option Numeral
based_numeral (Some base) cs = Some (digits_numeral base (drop 1 cs))
based_numeral None cs = if first_is 39 cs then character_numeral (drop 1 cs) else None

-- what makes more of a `0` than the decimal number, where it is after it
abbrev pub zero_numeral : List ℕ → Option Numeral
zero_numeral cs = based_numeral (named_base cs) cs

abbrev pub or_numeral : Option Numeral → Numeral → Numeral
or_numeral (Some n) otherwise = n
or_numeral None otherwise = otherwise

-- a text that begins with a digit
unfoldable pub numeral : List ℕ → Numeral
numeral cs = if first_is 48 cs then or_numeral (zero_numeral (drop 1 cs)) (decimal_numeral cs) else decimal_numeral cs
