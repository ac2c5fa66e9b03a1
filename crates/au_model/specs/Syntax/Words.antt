-- Tokens (ISO/IEC 13211-1, 6.4): the longest that is at the front of a text.
use Rattle.std.specs.Prelude.{ℕ, Bool, true, ◌&&◌, ◌||◌, ◌==◌, List, [], ◌∷◌, if◌then◌else◌}
use Rattle.au_model.specs.Syntax.Characters.{is_blank, is_symbol, is_solo, is_punctuation, is_small, starts_variable, is_alphanumeric, is_digit_of, run, after_run}
use Rattle.au_model.specs.Syntax.Layout.{Gap, GapThen, GapNotClosed, after_layout}
use Rattle.au_model.specs.Syntax.Quoted.{Quoted, QuotedThen, WrongEscape, NeverClosed, quoted}
use Rattle.au_model.specs.Syntax.Numerals.{Numeral, NumeralThen, FloatingPoint, TooWide, WrongCharacter, numeral}
use Rattle.au_model.specs.declared.types.FaultKind.{FaultKind}
use Rattle.au_model.specs.declared.types.FaultKind.TheVariants.{BadCharacter, BadEscape, UnclosedQuote, UnclosedComment, FloatNumeral, WideNumeral}

-- what a token is: names, variables and quoted items have their characters, escapes undone; a mark is punctuation
pub data Word : Type 0 where
  NameWord : List ℕ → Word
  QuotedWord : List ℕ → Word
  VariableWord : List ℕ → Word
  IntegerWord : ℕ → Word
  TextWord : List ℕ → Word
  MarkWord : ℕ → Word
  StopWord : Word
  LastWord : Word

-- a word and what is left after it, or a fault and what is from its place on
pub data Lexed : Type 0 where
  FoundWord : Word → List ℕ → Lexed
  FoundFault : FaultKind → List ℕ → Lexed

-- the first character and the run after it
abbrev pub run_word : (List ℕ → Word) → (ℕ → Bool) → ℕ → List ℕ → Lexed
run_word word p c cs = FoundWord (word (c ∷ run p cs)) (after_run p cs)

abbrev pub numeral_word : List ℕ → Numeral → Lexed
numeral_word from (NumeralThen n rest) = FoundWord (IntegerWord n) rest
numeral_word from FloatingPoint = FoundFault FloatNumeral from
numeral_word from TooWide = FoundFault WideNumeral from
numeral_word from (WrongCharacter place) = FoundFault BadEscape place

abbrev pub quoted_word : (List ℕ → Word) → List ℕ → Quoted → Lexed
quoted_word word from (QuotedThen cs rest) = FoundWord (word cs) rest
quoted_word word from (WrongEscape place) = FoundFault BadEscape place
quoted_word word from NeverClosed = FoundFault UnclosedQuote from

-- a point ends a term before layout, `%` and the end of the text
abbrev pub ends_term : List ℕ → Bool
ends_term [] = true
ends_term (c ∷ cs) = is_blank c || (c == 37)

-- the word at the front of a text that begins with no layout; the first that fits
abbrev pub word_at_front : List ℕ → Lexed
word_at_front [] = FoundWord LastWord []
word_at_front (c ∷ cs) =
    if is_small c then run_word NameWord is_alphanumeric c cs
    else if starts_variable c then run_word VariableWord is_alphanumeric c cs
    else if is_digit_of 10 c then numeral_word (c ∷ cs) (numeral (c ∷ cs))
    else if c == 39 then quoted_word QuotedWord (c ∷ cs) (quoted 39 cs)
    else if c == 34 then quoted_word TextWord (c ∷ cs) (quoted 34 cs)
    else if is_solo c then FoundWord (NameWord (c ∷ [])) cs
    else if is_punctuation c then FoundWord (MarkWord c) cs
    else if (c == 46) && ends_term cs then FoundWord StopWord cs
    else if is_symbol c then run_word NameWord is_symbol c cs
    else FoundFault BadCharacter (c ∷ cs)

abbrev pub word_after : Gap → Lexed
word_after (GapThen rest) = word_at_front rest
word_after (GapNotClosed from) = FoundFault UnclosedComment from

-- the next token of a text, or its fault
abbrev pub next_word : List ℕ → Lexed
next_word cs = word_after (after_layout cs)

-- the characters of a name, a variable, a quoted item or a mark
abbrev pub word_characters : Word → List ℕ
word_characters (NameWord cs) = cs
word_characters (QuotedWord cs) = cs
word_characters (VariableWord cs) = cs
word_characters (TextWord cs) = cs
word_characters (MarkWord c) = c ∷ []
word_characters _ = []

-- the number of an integer
abbrev pub word_number : Word → ℕ
word_number (IntegerWord n) = n
word_number _ = 0

-- the word that was found; the last one where there is none
abbrev pub found_word : Lexed → Word
found_word (FoundWord w rest) = w
found_word (FoundFault k from) = LastWord
