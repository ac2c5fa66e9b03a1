-- One token more in a text.
use Rattle.std.proofs.Common.{◌≡◌, ℕ, Bool, true, false, ◌&&◌, ◌||◌, List, [], ◌∷◌, ◌++◌, refl, sym, ap, ◌∙◌, append_assoc, append-nil}
use Rattle.au_model.specs.Syntax.Tokens.{Lexeme, token, Name, QuotedName, Variable, Integer, Text as TextItem, Open as OpenBracket, Close as CloseBracket, OpenList as OpenSquare, CloseList as CloseSquare, OpenCurly as OpenBrace, CloseCurly as CloseBrace, Comma as CommaMark, Bar as BarMark, End}
use Rattle.au_model.specs.Writing.Pieces.{Piece, Put, Space as SpacePiece, TokenEnds, SymbolEnds, LetterEnds, OtherEnds, InFront, SpaceInFront, TokenInFront, name_ends, ends_of, run_together, joined_pieces, plain_text, quoted_text, text_of_token, text_of_tokens}
use Rattle.au_model.specs.Writing.WrittenTerms.{spaced, is_open, is_integer_term, token_text}
use Rattle.term_writer.specs.declared.text.Side.{Side}
use Rattle.term_writer.specs.declared.text.Side.TheVariants.{Symbols, Letters, Digits, Open as OpenSide, Other}
use Rattle.term_writer.specs.declared.text.Front.{Front}
use Rattle.term_writer.specs.declared.text.Front.TheVariants.{Nothing, Space, Token as BehindToken, PrefixOperator}
use Rattle.au_model.specs.declared.types.Style.{Style}
use Rattle.au_model.specs.declared.types.Style.TheVariants.{Plain, Quoted, Canonical}
use Rattle.au_model.specs.Writing.NameForms.{escaped, escaped_all}
use Rattle.term_writer.specs.TextInProgress.{side_by_ends, side_of, ends_of_side, after_side, after_operator, needs_space, space_text, joined_after, bytes_with}

by_ends : (e : TokenEnds) → ends_of_side (side_by_ends e) ≡ e
by_ends SymbolEnds = refl
by_ends LetterEnds = refl
by_ends OtherEnds = refl

pub ends_by_side : (x : Lexeme) → ends_of_side (side_of x) ≡ ends_of x
ends_by_side (Name n) = by_ends (name_ends n)
ends_by_side (QuotedName n) = refl
ends_by_side (Variable n) = refl
ends_by_side (Integer k) = refl
ends_by_side (TextItem cs) = refl
ends_by_side OpenBracket = refl
ends_by_side CloseBracket = refl
ends_by_side OpenSquare = refl
ends_by_side CloseSquare = refl
ends_by_side OpenBrace = refl
ends_by_side CloseBrace = refl
ends_by_side CommaMark = refl
ends_by_side BarMark = refl
ends_by_side End = refl

symbols_meet : (b : Side) → run_together SymbolEnds (ends_of_side b) ≡ after_side Symbols b
symbols_meet Symbols = refl
symbols_meet Letters = refl
symbols_meet Digits = refl
symbols_meet OpenSide = refl
symbols_meet Other = refl

letters_meet : (b : Side) → run_together LetterEnds (ends_of_side b) ≡ after_side Letters b
letters_meet Symbols = refl
letters_meet Letters = refl
letters_meet Digits = refl
letters_meet OpenSide = refl
letters_meet Other = refl

others_meet : (b : Side) → run_together OtherEnds (ends_of_side b) ≡ false
others_meet Symbols = refl
others_meet Letters = refl
others_meet Digits = refl
others_meet OpenSide = refl
others_meet Other = refl

sides_meet : (a b : Side) → run_together (ends_of_side a) (ends_of_side b) ≡ after_side a b
sides_meet Symbols b = symbols_meet b
sides_meet Letters b = letters_meet b
sides_meet Digits b = letters_meet b
sides_meet OpenSide b = others_meet b
sides_meet Other b = others_meet b

name_after : (m : Bool) (e : TokenEnds) → (m && false || run_together SymbolEnds e) ≡ after_operator m (side_by_ends e)
name_after true SymbolEnds = refl
name_after true LetterEnds = refl
name_after true OtherEnds = refl
name_after false SymbolEnds = refl
name_after false LetterEnds = refl
name_after false OtherEnds = refl

no_space : (m : Bool) → (m && false || false) ≡ false
no_space true = refl
no_space false = refl

digits_after : (m : Bool) → (m && true || false) ≡ m
digits_after true = refl
digits_after false = refl

operator_seam : (m : Bool) (x : Lexeme) → ((is_open x || (m && is_integer_term x)) || run_together SymbolEnds (ends_of x)) ≡ after_operator m (side_of x)
operator_seam m (Name n) = name_after m (name_ends n)
operator_seam m (QuotedName n) = no_space m
operator_seam m (Variable n) = no_space m
operator_seam m (Integer k) = digits_after m
operator_seam m (TextItem cs) = no_space m
operator_seam m OpenBracket = refl
operator_seam m CloseBracket = no_space m
operator_seam m OpenSquare = no_space m
operator_seam m CloseSquare = no_space m
operator_seam m OpenBrace = no_space m
operator_seam m CloseBrace = no_space m
operator_seam m CommaMark = no_space m
operator_seam m BarMark = no_space m
operator_seam m End = no_space m

spaced_seam : (b : Bool) (x : Lexeme) (ps : List Piece) → joined_pieces (TokenInFront SymbolEnds) (spaced b (Put x ∷ ps)) ≡ token (b || run_together SymbolEnds (ends_of x)) x ∷ joined_pieces (TokenInFront (ends_of x)) ps
spaced_seam true x ps = refl
spaced_seam false x ps = refl

-- the next token, with the space in front of it
seam : (front : Front) (x : Lexeme) (ps : List Piece) → joined_after front (Put x ∷ ps) ≡ token (needs_space front (side_of x)) x ∷ joined_after (BehindToken (side_of x)) ps
seam Nothing x ps = rw (ends_by_side x) refl
seam Space x ps = rw (ends_by_side x) refl
seam (BehindToken side) x ps = ap (λ b. token b x ∷ joined_pieces (TokenInFront (ends_of x)) ps) (ap (run_together (ends_of_side side)) (sym (ends_by_side x)) ∙ sides_meet side (side_of x)) ∙ ap (λ e. token (after_side side (side_of x)) x ∷ joined_pieces (TokenInFront e) ps) (sym (ends_by_side x))
seam (PrefixOperator m) x ps =
    spaced_seam (is_open x || (m && is_integer_term x)) x ps
    ∙ (ap (λ b. token b x ∷ joined_pieces (TokenInFront (ends_of x)) ps) (operator_seam m x) ∙ ap (λ e. token (after_operator m (side_of x)) x ∷ joined_pieces (TokenInFront e) ps) (sym (ends_by_side x)))

with_space : (text : Lexeme → List ℕ) (b : Bool) (x : Lexeme) → text_of_token text (token b x) ≡ space_text b ++ text x
with_space text true x = refl
with_space text false x = refl

-- the bytes of a token were put after a text
pub token_put : (style after : Style) (old new : List ℕ) (front front_after : Front) (x : Lexeme)
    → new ≡ old ++ space_text (needs_space front (side_of x)) ++ token_text style x → after ≡ style → front_after ≡ BehindToken (side_of x)
    → (ps : List Piece) → bytes_with after new front_after ps ≡ bytes_with style old front (Put x ∷ ps)
token_put style after old new front front_after x b s f ps =
    let text = token_text style in
    let rest = text_of_tokens text (joined_after (BehindToken (side_of x)) ps) in
    let space = space_text (needs_space front (side_of x)) in
    let whole : text_of_tokens text (joined_after front (Put x ∷ ps)) ≡ space ++ text x ++ rest =
    ap (text_of_tokens text) (seam front x ps) ∙ ap (λ t. t ++ rest) (with_space text (needs_space front (side_of x)) x) in
    let here : bytes_with after new front_after ps ≡ old ++ space ++ text x ++ rest = rw (b, s, f) refl in
    here ∙ (ap (λ t. t ++ rest) (append_assoc old space (text x)) ∙ (append_assoc old (space ++ text x) rest ∙ ap (λ t. old ++ t) (sym whole)))

spaced_nothing : (b : Bool) (front : InFront) (ps : List Piece) → joined_pieces front (spaced b (SpacePiece ∷ ps)) ≡ joined_pieces SpaceInFront ps
spaced_nothing true front ps = refl
spaced_nothing false front ps = refl

-- a space that a rule asks for
pub space_after : (front : Front) (ps : List Piece) → joined_after Space ps ≡ joined_after front (SpacePiece ∷ ps)
space_after Nothing ps = refl
space_after Space ps = refl
space_after (BehindToken side) ps = refl
space_after (PrefixOperator m) ps = sym (spaced_nothing (false || (m && false)) (TokenInFront SymbolEnds) ps)

-- a token whose text is the same in all styles
pub same_text : (style : Style) (x : Lexeme) → plain_text x ≡ quoted_text x → token_text style x ≡ quoted_text x
same_text Plain x h = h
same_text Quoted x h = refl
same_text Canonical x h = refl

pub quoted_style : (style : Style) (x : Lexeme) → (style ≡ Plain → ⊥) → token_text style x ≡ quoted_text x
quoted_style Plain x h = absurd (h refl)
quoted_style Quoted x h = refl
quoted_style Canonical x h = refl

pub escaped_more : (cs : List ℕ) (c : ℕ) → escaped_all (cs ++ c ∷ []) ≡ escaped_all cs ++ escaped c
escaped_more [] c = append-nil (escaped c)
escaped_more (d ∷ cs) c = ap (λ t. escaped d ++ t) (escaped_more cs c) ∙ sym (append_assoc (escaped d) (escaped_all cs) (escaped c))
