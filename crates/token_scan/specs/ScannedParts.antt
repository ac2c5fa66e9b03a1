-- What the scanner's own types stand for.
use Rattle.std.specs.Prelude.{◌≤◌, ◌^◌, ℕ, suc, Bool, List, [], Option, Some, None, IsCharBoundary}
use Rattle.au_model.specs.Syntax.Characters.{chars_from, is_alphanumeric, is_symbol, is_in_line}
use Rattle.au_model.specs.Syntax.Quoted.{Part, StandsFor, StandsForNothing, ClosingQuote, NoEscape, CutOff, Quoted, QuotedThen}
use Rattle.au_model.specs.Syntax.Numerals.{Numeral, NumeralThen, FloatingPoint, TooWide, WrongCharacter}
use Rattle.token_scan.specs.declared.numbers.Number.{Number}
use Rattle.token_scan.specs.declared.numbers.Number.TheVariants.{Fits, Float, Wide, NoCharacter}
use Rattle.token_scan.specs.declared.cursor.Class.{Class}
use Rattle.token_scan.specs.declared.cursor.Class.TheVariants.{Alphanumeric, Symbol, Line}
use Rattle.token_scan.specs.declared.quotes.Piece.{Piece}
use Rattle.token_scan.specs.declared.quotes.Piece.TheVariants.{Character, Skips, Closes, Wrong, Cut}

abbrev pub passes : Class → ℕ → Bool
passes Alphanumeric c = is_alphanumeric c
passes Symbol c = is_symbol c
passes Line c = is_in_line c

-- the part of a text's quoted item that a piece names by its end
abbrev pub quoted_part_of : List ℕ → Piece → Part
quoted_part_of text (Character c end) = StandsFor c (chars_from text end)
quoted_part_of text (Skips end) = StandsForNothing (chars_from text end)
quoted_part_of text (Closes end) = ClosingQuote (chars_from text end)
quoted_part_of text Wrong = NoEscape
quoted_part_of text Cut = CutOff

-- a place of the text, from this one on
abbrev pub IsPlaceFrom : List ℕ → ℕ → ℕ → Type 0
IsPlaceFrom text at place = (at ≤ place) × IsCharBoundary text place

-- the piece ends after this place
abbrev pub EndsAfter : List ℕ → ℕ → Piece → Type 0
EndsAfter text at (Character c end) = IsPlaceFrom text (suc at) end
EndsAfter text at (Skips end) = IsPlaceFrom text (suc at) end
EndsAfter text at (Closes end) = IsPlaceFrom text (suc at) end
EndsAfter text at _ = Unit {0}

-- what is left after a quoted item
abbrev pub quoted_rest : Quoted → Option (List ℕ)
quoted_rest (QuotedThen cs rest) = Some rest
quoted_rest _ = None

-- its characters
abbrev pub quoted_characters : Quoted → List ℕ
quoted_characters (QuotedThen cs rest) = cs
quoted_characters _ = []

-- the numeral of a text that a number names by its end
abbrev pub numeral_of : List ℕ → Number → Numeral
numeral_of text (Fits n end) = NumeralThen n (chars_from text end)
numeral_of text Float = FloatingPoint
numeral_of text Wide = TooWide
numeral_of text (NoCharacter place) = WrongCharacter (chars_from text place)

-- the number is not too wide and ends, or its escape is, from this place on
abbrev pub IsNumberFrom : List ℕ → ℕ → Number → Type 0
IsNumberFrom text at (Fits n end) = IsPlaceFrom text at end × (n ≤ 2 ^ 63)
IsNumberFrom text at (NoCharacter place) = IsPlaceFrom text at place
IsNumberFrom text at _ = Unit {0}
