-- Names as they are written: bare, or between quotes (ISO/IEC 13211-1, 6.4.2 and 7.10.5).
use Rattle.std.specs.Prelude.{ℕ, Bool, false, not, ◌&&◌, ◌||◌, ◌==◌, nat_lt, ◌/◌, ◌%◌, List, [], ◌∷◌, ◌++◌, codes, if◌then◌else◌}
use Rattle.std.specs.List.{list_all}
use Rattle.std.specs.Char.{digit_char, encode_utf8}
use Rattle.au_model.specs.Syntax.Characters.{is_symbol, is_solo, is_small, is_alphanumeric, first_is, first_passes}
use Rattle.au_model.specs.Terms.Forms.{same_name}

-- a small letter, and then letters, digits and `_`
abbrev pub is_letter_name : List ℕ → Bool
is_letter_name n = first_passes is_small n && list_all is_alphanumeric n

abbrev pub begins_comment : List ℕ → Bool
begins_comment [] = false
begins_comment (c ∷ cs) = (c == 47) && first_is 42 cs

-- symbol characters that begin no comment, and are no `.` alone
abbrev pub is_symbol_name : List ℕ → Bool
is_symbol_name n = first_passes is_symbol n && (list_all is_symbol n && (not (begins_comment n) && not (same_name n (codes "."))))

abbrev pub is_solo_name : List ℕ → Bool
is_solo_name [] = false
is_solo_name (c ∷ []) = is_solo c
is_solo_name (c ∷ d ∷ cs) = false

-- whether a name other than `[]` and `{}` needs no quotes
abbrev pub is_bare : List ℕ → Bool
is_bare n = is_symbol_name n || (is_letter_name n || is_solo_name n)

-- a number below 256 in hexadecimal digits
abbrev pub hexadecimal : ℕ → List ℕ
hexadecimal c = if nat_lt c 16 then digit_char c ∷ [] else digit_char (c / 16) ∷ digit_char (c % 16) ∷ []

-- a character between quotes: a backslash and a quote after a backslash, a line feed as `\n`, other control characters
-- by their codes
abbrev pub escaped : ℕ → List ℕ
escaped c =
    if (c == 92) || (c == 39) then 92 ∷ c ∷ []
    else if c == 10 then codes "\\n"
    else if nat_lt c 32 || (c == 127) then codes "\\x" ++ hexadecimal c ++ codes "\\"
    else encode_utf8 c

abbrev pub escaped_all : List ℕ → List ℕ
escaped_all [] = []
escaped_all (c ∷ cs) = escaped c ++ escaped_all cs
