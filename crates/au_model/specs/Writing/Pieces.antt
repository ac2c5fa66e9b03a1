-- The pieces of a written term, and the spaces between them (ISO/IEC 13211-1, 7.10.5).
use Rattle.std.specs.Prelude.{ℕ, Bool, true, false, List, [], ◌∷◌, ◌++◌, codes, if◌then◌else◌}
use Rattle.std.specs.Str.{encode_utf8_all}
use Rattle.std.specs.Fmt.{decimal}
use Rattle.au_model.specs.Syntax.Tokens.{Lexeme, Token, token, Name, QuotedName, Variable, Integer, Text, Open, Close, OpenList, CloseList, OpenCurly, CloseCurly, Comma, Bar, End}
use Rattle.au_model.specs.Writing.NameForms.{is_symbol_name, is_letter_name, escaped_all}

-- a token, or a space that a rule asks for
pub data Piece : Type 0 where
  Put : Lexeme → Piece
  Space : Piece

-- what is at both ends of a token: symbol characters, letters and digits, or neither
pub data TokenEnds : Type 0 where
  SymbolEnds : TokenEnds
  LetterEnds : TokenEnds
  OtherEnds : TokenEnds

abbrev pub name_ends : List ℕ → TokenEnds
name_ends n = if is_symbol_name n then SymbolEnds else if is_letter_name n then LetterEnds else OtherEnds

abbrev pub ends_of : Lexeme → TokenEnds
ends_of (Name n) = name_ends n
ends_of (Variable n) = LetterEnds
ends_of (Integer k) = LetterEnds
ends_of _ = OtherEnds

-- two tokens would run together
abbrev pub run_together : TokenEnds → TokenEnds → Bool
run_together SymbolEnds SymbolEnds = true
run_together LetterEnds LetterEnds = true
run_together _ _ = false

-- what is in front of a token: nothing yet, a space that a rule asks for, or a token with these ends
pub data InFront : Type 0 where
  NothingYet : InFront
  SpaceInFront : InFront
  TokenInFront : TokenEnds → InFront

-- a space keeps two tokens apart that would run together
abbrev pub are_separate : InFront → Lexeme → Bool
are_separate NothingYet x = false
are_separate SpaceInFront x = true
are_separate (TokenInFront ends) x = run_together ends (ends_of x)

-- the tokens, each with a space in front or none
abbrev pub joined_pieces : InFront → List Piece → List Token
joined_pieces front [] = []
joined_pieces front (Space ∷ ps) = joined_pieces SpaceInFront ps
joined_pieces front (Put x ∷ ps) = token (are_separate front x) x ∷ joined_pieces (TokenInFront (ends_of x)) ps

-- a token as it is read again
abbrev pub quoted_text : Lexeme → List ℕ
quoted_text (Name n) = encode_utf8_all n
quoted_text (QuotedName n) = 39 ∷ escaped_all n ++ 39 ∷ []
quoted_text (Variable n) = encode_utf8_all n
quoted_text (Integer k) = decimal k
quoted_text (Text cs) = 34 ∷ escaped_all cs ++ 34 ∷ []
quoted_text Open = codes "("
quoted_text Close = codes ")"
quoted_text OpenList = codes "["
quoted_text CloseList = codes "]"
quoted_text OpenCurly = codes "{"
quoted_text CloseCurly = codes "}"
quoted_text Comma = codes ","
quoted_text Bar = codes "|"
quoted_text End = codes "."

-- the same without quotes and escapes
abbrev pub plain_text : Lexeme → List ℕ
plain_text (QuotedName n) = encode_utf8_all n
plain_text x = quoted_text x

abbrev pub text_of_token : (Lexeme → List ℕ) → Token → List ℕ
text_of_token text (token true x) = 32 ∷ text x
text_of_token text (token false x) = text x

abbrev pub text_of_tokens : (Lexeme → List ℕ) → List Token → List ℕ
text_of_tokens text [] = []
text_of_tokens text (t ∷ ts) = text_of_token text t ++ text_of_tokens text ts
