-- A text in the making, and the pieces that are to follow it.
use Rattle.std.specs.Prelude.{ℕ, Bool, true, false, ◌&&◌, ◌||◌, List, [], ◌∷◌, ◌++◌}
use Rattle.au_model.specs.Syntax.Tokens.{Lexeme, Token, Name, Variable, Integer, Open as OpenBracket, Close as CloseBracket, OpenList as OpenSquare, CloseList as CloseSquare, OpenCurly as OpenBrace, CloseCurly as CloseBrace, Comma as CommaMark, Bar as BarMark}
use Rattle.au_model.specs.Writing.Pieces.{Piece, TokenEnds, SymbolEnds, LetterEnds, OtherEnds, NothingYet, SpaceInFront, TokenInFront, name_ends, joined_pieces, text_of_tokens}
use Rattle.au_model.specs.Writing.WrittenTerms.{spaced, begins_with, is_open, is_integer_term, token_text}
use Rattle.au_model.specs.declared.types.Style.{Style}
use Rattle.term_writer.specs.declared.text.Mark.{Mark}
use Rattle.term_writer.specs.declared.text.Mark.TheVariants.{Open, Close, OpenList, CloseList, OpenCurly, CloseCurly, Comma, Bar}
use Rattle.term_writer.specs.declared.text.Side.{Side}
use Rattle.term_writer.specs.declared.text.Side.TheVariants.{Symbols, Letters, Digits, Open as OpenSide, Other}
use Rattle.term_writer.specs.declared.text.Front.{Front}
use Rattle.term_writer.specs.declared.text.Front.TheVariants.{Nothing, Space, Token as BehindToken, PrefixOperator}
use Rattle.term_writer.specs.declared.text.Text.{Text}

abbrev pub mark_meant : Mark → Lexeme
mark_meant Open = OpenBracket
mark_meant Close = CloseBracket
mark_meant OpenList = OpenSquare
mark_meant CloseList = CloseSquare
mark_meant OpenCurly = OpenBrace
mark_meant CloseCurly = CloseBrace
mark_meant Comma = CommaMark
mark_meant Bar = BarMark

abbrev pub side_by_ends : TokenEnds → Side
side_by_ends SymbolEnds = Symbols
side_by_ends LetterEnds = Letters
side_by_ends OtherEnds = Other

abbrev pub side_of : Lexeme → Side
side_of (Name n) = side_by_ends (name_ends n)
side_of (Variable n) = Letters
side_of (Integer k) = Digits
side_of OpenBracket = OpenSide
side_of _ = Other

abbrev pub ends_of_side : Side → TokenEnds
ends_of_side Symbols = SymbolEnds
ends_of_side Letters = LetterEnds
ends_of_side Digits = LetterEnds
ends_of_side OpenSide = OtherEnds
ends_of_side Other = OtherEnds

-- whether a space is in front of a token with these sides
abbrev pub after_symbols : Side → Bool
after_symbols Symbols = true
after_symbols _ = false

abbrev pub after_letters : Side → Bool
after_letters Letters = true
after_letters Digits = true
after_letters _ = false

abbrev pub after_side : Side → Side → Bool
after_side Symbols side = after_symbols side
after_side Letters side = after_letters side
after_side Digits side = after_letters side
after_side OpenSide side = false
after_side Other side = false

abbrev pub after_operator : Bool → Side → Bool
after_operator is_minus Symbols = true
after_operator is_minus OpenSide = true
after_operator is_minus Digits = is_minus
after_operator is_minus Letters = false
after_operator is_minus Other = false

abbrev pub needs_space : Front → Side → Bool
needs_space Nothing side = false
needs_space Space side = true
needs_space (BehindToken before) side = after_side before side
needs_space (PrefixOperator is_minus) side = after_operator is_minus side

abbrev pub space_text : Bool → List ℕ
space_text true = 32 ∷ []
space_text false = []

-- the tokens of pieces after what is in front
abbrev pub joined_after : Front → List Piece → List Token
joined_after Nothing ps = joined_pieces NothingYet ps
joined_after Space ps = joined_pieces SpaceInFront ps
joined_after (BehindToken side) ps = joined_pieces (TokenInFront (ends_of_side side)) ps
joined_after (PrefixOperator is_minus) ps =
    joined_pieces (TokenInFront SymbolEnds) (spaced (begins_with is_open ps || (is_minus && begins_with is_integer_term ps)) ps)

-- bytes in a style, with pieces after them
abbrev pub bytes_with : Style → List ℕ → Front → List Piece → List ℕ
bytes_with style bytes front ps = bytes ++ text_of_tokens (token_text style) (joined_after front ps)

-- the text with these pieces after it
abbrev pub followed_by : Text → List Piece → List ℕ
followed_by t ps = bytes_with t.style t.bytes.items t.front ps

-- the bytes of a text with a token after them, and the space before it if one is needed
abbrev pub with_token : Text → Lexeme → List ℕ
with_token t x = t.bytes.items ++ space_text (needs_space t.front (side_of x)) ++ token_text t.style x
