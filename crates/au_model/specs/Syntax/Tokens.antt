-- The tokens of a text as a reader of terms sees them, up to the first end.
use Rattle.std.specs.Prelude.{ℕ, zero, suc, Bool, true, false, ◌==◌, List, [], ◌∷◌, length, Option, Some, None, if◌then◌else◌}
use Rattle.au_model.specs.Syntax.Layout.{begins_layout}
use Rattle.au_model.specs.Syntax.Words.{Word, NameWord, QuotedWord, VariableWord, IntegerWord, TextWord, MarkWord, StopWord, LastWord, Lexed, FoundWord, FoundFault, next_word}

-- names, quoted names, variables and double-quoted items with their characters, escapes undone; integers; the marks; the end
pub data Lexeme : Type 0 where
  Name : List ℕ → Lexeme
  QuotedName : List ℕ → Lexeme
  Variable : List ℕ → Lexeme
  Integer : ℕ → Lexeme
  Text : List ℕ → Lexeme
  Open : Lexeme
  Close : Lexeme
  OpenList : Lexeme
  CloseList : Lexeme
  OpenCurly : Lexeme
  CloseCurly : Lexeme
  Comma : Lexeme
  Bar : Lexeme
  End : Lexeme

-- a token, and whether layout is before it
pub data Token : Type 0 where
  token : Bool → Lexeme → Token

-- `( ) [ ] { } ,` and the bar
abbrev pub mark_lexeme : ℕ → Lexeme
mark_lexeme c =
    if c == 40 then Open
    else if c == 41 then Close
    else if c == 91 then OpenList
    else if c == 93 then CloseList
    else if c == 123 then OpenCurly
    else if c == 125 then CloseCurly
    else if c == 44 then Comma
    else Bar

-- the end of the text is no token
abbrev pub lexeme_of : Word → Option Lexeme
lexeme_of (NameWord cs) = Some (Name cs)
lexeme_of (QuotedWord cs) = Some (QuotedName cs)
lexeme_of (VariableWord cs) = Some (Variable cs)
lexeme_of (IntegerWord n) = Some (Integer n)
lexeme_of (TextWord cs) = Some (Text cs)
lexeme_of (MarkWord c) = Some (mark_lexeme c)
lexeme_of StopWord = Some End
lexeme_of LastWord = None

-- a token and what is left after it, or none: the text is at its end, or something faulty is there
pub data Scanned : Type 0 where
  ScannedTo : Token → List ℕ → Scanned
  ScannedNone : Scanned

abbrev pub scanned_lexeme : Bool → List ℕ → Option Lexeme → Scanned
scanned_lexeme apart rest (Some x) = ScannedTo (token apart x) rest
scanned_lexeme apart rest None = ScannedNone

abbrev pub scanned_word : Bool → Lexed → Scanned
scanned_word apart (FoundWord w rest) = scanned_lexeme apart rest (lexeme_of w)
scanned_word apart (FoundFault kind from) = ScannedNone

-- the token at the front of a text
abbrev pub scanned : List ℕ → Scanned
scanned cs = scanned_word (begins_layout cs) (next_word cs)

-- tokens, and what is left of the text after them
pub record Front : Type 0 where
  pub tokens : List Token
  pub rest : List ℕ

abbrev pub front_with : Token → Front → Front
front_with t f = record { tokens = t ∷ f.tokens; rest = f.rest }

abbrev pub no_front : List ℕ → Front
no_front cs = record { tokens = []; rest = cs }

abbrev pub is_end : Lexeme → Bool
is_end End = true
is_end _ = false

-- nothing is read after an end
abbrev pub after_token : (List ℕ → Front) → Token → List ℕ → Front
after_token more (token apart x) rest = if is_end x then front_with (token apart x) (no_front rest) else front_with (token apart x) (more rest)

abbrev pub after_scanned : (List ℕ → Front) → List ℕ → Scanned → Front
after_scanned more cs (ScannedTo t rest) = after_token more t rest
after_scanned more cs ScannedNone = no_front cs

-- at most this many tokens
abbrev pub first_tokens : ℕ → List ℕ → Front
first_tokens zero cs = no_front cs
first_tokens (suc n) cs = after_scanned (first_tokens n) cs (scanned cs)

-- The tokens up to the first end, with it, or up to a fault or the text's end, where one of these comes first. Each
-- takes a character, so there are no more than characters.
unfoldable pub front : List ℕ → Front
front cs = first_tokens (length cs) cs

abbrev pub tokens_of : List ℕ → List Token
tokens_of cs = (front cs).tokens
