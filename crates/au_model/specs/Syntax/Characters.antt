-- The classes of characters (ISO/IEC 13211-1, 6.5; past ASCII by Unicode's properties), and runs of them.
use Rattle.std.specs.Prelude.{ℕ, Bool, true, false, not, ◌&&◌, ◌||◌, ◌==◌, nat_le, List, [], ◌∷◌, drop, chars, codes, if◌then◌else◌}
use Rattle.std.specs.List.{list_any}
use Rattle.std.specs.Char.{is_ascii_uppercase, is_ascii_lowercase, is_ascii_digit, is_digit}
use Rattle.unicode.specs.Binary.{is_alphabetic}
use Rattle.unicode.specs.GeneralCategory.{general_category}
use Rattle.ucd_category.specs.declared.GeneralCategory.{GeneralCategory}
use Rattle.ucd_category.specs.declared.GeneralCategory.TheVariants.{UppercaseLetter, TitlecaseLetter, DecimalNumber}

-- the characters of a text from a place on, which counts bytes
abbrev pub chars_from : List ℕ → ℕ → List ℕ
chars_from text at = chars (drop at text)

-- one of these characters
abbrev pub is_one_of : List ℕ → ℕ → Bool
is_one_of cs c = list_any (λ d. c == d) cs

-- codes 9 to 13 and 32
abbrev pub is_blank : ℕ → Bool
is_blank c = (nat_le 9 c && nat_le c 13) || (c == 32)

abbrev pub is_symbol : ℕ → Bool
is_symbol c = is_one_of (codes "+-*/\\^<>=~:.?@#&$") c

-- a name by itself
abbrev pub is_solo : ℕ → Bool
is_solo c = is_one_of (codes "!;") c

abbrev pub is_punctuation : ℕ → Bool
is_punctuation c = is_one_of (codes "()[]{},|") c

-- categories Lu and Lt
abbrev pub is_cased_category : GeneralCategory → Bool
is_cased_category UppercaseLetter = true
is_cased_category TitlecaseLetter = true
is_cased_category _ = false

-- category Nd
abbrev pub is_decimal_category : GeneralCategory → Bool
is_decimal_category DecimalNumber = true
is_decimal_category _ = false

-- A to Z, or a character past ASCII of category Lu or Lt
abbrev pub is_capital : ℕ → Bool
is_capital c = is_ascii_uppercase c || (nat_le 128 c && is_cased_category (general_category c))

-- a to z, or another character past ASCII that is alphabetic
abbrev pub is_small : ℕ → Bool
is_small c = is_ascii_lowercase c || (nat_le 128 c && (is_alphabetic c && not (is_capital c)))

-- a letter, `_`, 0 to 9, or another character past ASCII of category Nd
abbrev pub is_alphanumeric : ℕ → Bool
is_alphanumeric c = is_capital c || (is_small c || ((c == 95) || (is_ascii_digit c || (nat_le 128 c && is_decimal_category (general_category c)))))

-- `_` or a capital letter
abbrev pub starts_variable : ℕ → Bool
starts_variable c = is_capital c || (c == 95)

-- within a line
abbrev pub is_in_line : ℕ → Bool
is_in_line c = not (c == 10)

-- a digit of this base
abbrev pub is_digit_of : ℕ → ℕ → Bool
is_digit_of base c = is_digit c base

-- whether there is a first character and it passes
abbrev pub first_passes : (ℕ → Bool) → List ℕ → Bool
first_passes p [] = false
first_passes p (c ∷ cs) = p c

-- whether this character comes first
abbrev pub first_is : ℕ → List ℕ → Bool
first_is d cs = first_passes (λ c. c == d) cs

-- the longest front of characters that pass
abbrev pub run : (ℕ → Bool) → List ℕ → List ℕ
run p [] = []
run p (c ∷ cs) = if p c then c ∷ run p cs else []

-- what is left after the longest front of characters that pass
abbrev pub after_run : (ℕ → Bool) → List ℕ → List ℕ
after_run p [] = []
after_run p (c ∷ cs) = if p c then after_run p cs else (c ∷ cs)
