-- Quoted items: the characters between quotes, escapes undone (ISO/IEC 13211-1, 6.4.2.1).
use Rattle.std.specs.Prelude.{ℕ, zero, suc, Bool, ◌&&◌, ◌==◌, List, [], ◌∷◌, ◌++◌, length, drop, Option, Some, None, codes, if◌then◌else◌}
use lib.Utf8.{scalar}
use Rattle.std.specs.Str.Parse.{digits_value}
use Rattle.au_model.specs.Syntax.Characters.{is_one_of, is_digit_of, first_passes, first_is, run, after_run}

-- The first part of what is between quotes, with what is left after it: it stands for a character or for nothing,
-- or it is the closing quote; or it is no escape; or the text or the line ends in it.
pub data Part : Type 0 where
  StandsFor : ℕ → List ℕ → Part
  StandsForNothing : List ℕ → Part
  ClosingQuote : List ℕ → Part
  NoEscape : Part
  CutOff : Part

-- the character that a sign after a backslash stands for: `\ ' "` and the back quote for themselves
abbrev pub named_escape : ℕ → Option ℕ
named_escape c =
    if is_one_of (codes "\\'\"`") c then Some c
    else if c == 97 then Some 7
    else if c == 98 then Some 8
    else if c == 102 then Some 12
    else if c == 110 then Some 10
    else if c == 114 then Some 13
    else if c == 116 then Some 9
    else if c == 118 then Some 11
    else None

abbrev pub named_part : Option ℕ → List ℕ → Part
named_part (Some d) cs = StandsFor d cs
named_part None cs = NoEscape

-- what the digits of an escape, of which the number may be that of a character, are followed by
abbrev pub numbered_part : Bool → ℕ → List ℕ → Part
numbered_part is_good n [] = CutOff
numbered_part is_good n (c ∷ cs) =
    if c == 10 then CutOff
    else if is_good && (c == 92) then StandsFor n cs
    else NoEscape

-- digits of this base, at least one, and a backslash: the character with that number
abbrev pub numbered_escape : ℕ → List ℕ → Part
numbered_escape base cs =
    let n = digits_value base (run (is_digit_of base) cs) in
    numbered_part (first_passes (is_digit_of base) cs && scalar n) n (after_run (is_digit_of base) cs)

-- what is after a backslash: a line feed, `x` and hexadecimal digits, octal digits, or a sign with a name
abbrev pub escape : List ℕ → Part
escape [] = CutOff
escape (c ∷ cs) =
    if c == 10 then StandsForNothing cs
    else if c == 120 then numbered_escape 16 cs
    else if is_digit_of 8 c then numbered_escape 8 (c ∷ cs)
    else named_part (named_escape c) cs

-- the first part after the opening quote q: the quote doubled or alone, an escape, or any character but a line feed
abbrev pub part : ℕ → List ℕ → Part
part q [] = CutOff
part q (c ∷ cs) =
    if c == q then (if first_is q cs then StandsFor q (drop 1 cs) else ClosingQuote cs)
    else if c == 92 then escape cs
    else if c == 10 then CutOff
    else StandsFor c cs

-- a quoted item's characters and what is left after its closing quote, the place of what is no escape, or no end
pub data Quoted : Type 0 where
  QuotedThen : List ℕ → List ℕ → Quoted
  WrongEscape : List ℕ → Quoted
  NeverClosed : Quoted

abbrev pub with_characters : List ℕ → Quoted → Quoted
with_characters ds (QuotedThen cs rest) = QuotedThen (ds ++ cs) rest
with_characters ds (WrongEscape from) = WrongEscape from
with_characters ds NeverClosed = NeverClosed

abbrev pub after_part : (List ℕ → Quoted) → List ℕ → Part → Quoted
after_part more cs (StandsFor d rest) = with_characters (d ∷ []) (more rest)
after_part more cs (StandsForNothing rest) = more rest
after_part more cs (ClosingQuote rest) = QuotedThen [] rest
after_part more cs NoEscape = WrongEscape cs
after_part more cs CutOff = NeverClosed

-- at most this many parts, from the left; the first that is wrong counts
abbrev pub quoted_parts : ℕ → ℕ → List ℕ → Quoted
quoted_parts zero q cs = NeverClosed
quoted_parts (suc n) q cs = after_part (quoted_parts n q) cs (part q cs)

-- what is after the opening quote q: each part takes a character, so there are no more than characters
unfoldable pub quoted : ℕ → List ℕ → Quoted
quoted q cs = quoted_parts (length cs) q cs
