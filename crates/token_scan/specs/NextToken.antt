-- The next token of a text, or its fault, by places.
use Rattle.std.specs.Prelude.{◌≡◌, ◌≤◌, ℕ, Bool, true, false, List, Option, Some, None, IsCharBoundary}
use Rattle.au_model.specs.Syntax.Characters.{chars_from}
use Rattle.au_model.specs.Syntax.Layout.{GapThen, after_layout, begins_layout}
use Rattle.au_model.specs.Syntax.Words.{Word, NameWord, QuotedWord, VariableWord, IntegerWord, TextWord, MarkWord, StopWord, LastWord, Lexed, FoundWord, FoundFault, found_word, word_at_front}
use Rattle.token_scan.specs.declared.token.Token.{Token}
use Rattle.token_scan.specs.declared.token.BadToken.{BadToken}
use Rattle.token_scan.specs.declared.token.TokenKind.{TokenKind}
use Rattle.token_scan.specs.declared.token.TokenKind.TheVariants.{Name, QuotedName, Variable, Integer, DoubleQuoted, Punctuation, End, EndOfText}

abbrev pub kind_of : Word → TokenKind
kind_of (NameWord cs) = Name
kind_of (QuotedWord cs) = QuotedName
kind_of (VariableWord cs) = Variable
kind_of (IntegerWord n) = Integer
kind_of (TextWord cs) = DoubleQuoted
kind_of (MarkWord c) = Punctuation
kind_of StopWord = End
kind_of LastWord = EndOfText

-- names, variables and marks are in the text as they are
abbrev pub is_plain_kind : TokenKind → Bool
is_plain_kind Name = true
is_plain_kind Variable = true
is_plain_kind Punctuation = true
is_plain_kind _ = false

abbrev pub is_quoted_kind : TokenKind → Bool
is_quoted_kind QuotedName = true
is_quoted_kind DoubleQuoted = true
is_quoted_kind _ = false

abbrev pub is_integer_kind : TokenKind → Bool
is_integer_kind Integer = true
is_integer_kind _ = false

-- the kind of a found word and what is left after it
abbrev pub kind_found : Lexed → Option (TokenKind × List ℕ)
kind_found (FoundWord w rest) = Some (kind_of w, rest)
kind_found (FoundFault k from) = None

-- the word that begins where a token starts
abbrev pub word_of : List ℕ → Token → Word
word_of text t = found_word (word_at_front (chars_from text t.start))

-- a token of the text: its word, from its start up to its end, and the word's kind
pub record IsToken (text : List ℕ) (t : Token) : Type 0 where
  pub first : IsCharBoundary text t.start
  pub last : IsCharBoundary text t.end
  pub order : t.start ≤ t.end
  pub word : word_at_front (chars_from text t.start) ≡ FoundWord (word_of text t) (chars_from text t.end)
  pub kind : t.kind ≡ kind_of (word_of text t)

-- the first token from a place on, and whether layout is before it
pub record IsNextToken (text : List ℕ) (at : ℕ) (t : Token) : Type 0 where
  pub token : IsToken text t
  pub from : at ≤ t.start
  pub layout : after_layout (chars_from text at) ≡ GapThen (chars_from text t.start)
  pub before : t.layout_before ≡ begins_layout (chars_from text at)

-- the fault that was found, from a place on
pub record IsTokenFault (found : Lexed) (text : List ℕ) (at : ℕ) (e : BadToken) : Type 0 where
  pub place : IsCharBoundary text e.at
  pub from : at ≤ e.at
  pub fault : found ≡ FoundFault e.kind (chars_from text e.at)
