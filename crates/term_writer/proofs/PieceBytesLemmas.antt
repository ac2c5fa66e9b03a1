-- The bytes of written pieces decode to the characters that are scanned as their tokens.
use Rattle.std.proofs.Common.{◌≡◌, ℕ, ◌<◌, ◌≤◌, ◌^◌, Bool, true, false, ◌&&◌, ◌==◌, nat_lt, List, [], ◌∷◌, ◌++◌, length, codes, refl, sym, ap, ◌∙◌, subst, arith, append-nil, length-append}
use Rattle.std.specs.Char.{encode_utf8}
use Rattle.std.specs.Fmt.{decimal}
use Rattle.std.specs.Str.{IsAscii, all_scalars, encode_utf8_all, chars}
use Rattle.std.proofs.lemmas.Fmt.{IsAscii-decimal, decimal_nonempty}
use Rattle.std.proofs.lemmas.Str.{IsUtf8-from_ascii, encodes-append, encodes-IsAscii, chars-IsAscii, scalars-chars, chars-encodes}
use Rattle.au_model.specs.Syntax.Tokens.{Lexeme, Name, QuotedName, Variable, Integer, Text, Open, Close, OpenList, CloseList, OpenCurly, CloseCurly, Comma, Bar, End, token, front}
use Rattle.au_model.specs.Writing.NameForms.{hexadecimal, escaped, escaped_all}
use Rattle.au_model.specs.Writing.Pieces.{Piece, Space, Put, InFront, SpaceInFront, TokenInFront, ends_of, are_separate, joined_pieces, quoted_text, text_of_token, text_of_tokens}
use Rattle.term_writer.proofs.TokenTextLemmas.{EachBelow, below, escaped_char, escaped_chars, token_chars}
use Rattle.au_term.proofs.LogicLemmas.{same_number, and-left as and_left, and-right as and_right}
use Rattle.term_writer.proofs.PieceTokenLemmas.{IsFine, Well, takes_quote}
use Rattle.term_writer.proofs.PieceScanLemmas.{token_text_chars, pieces_chars, whole, scan-pieces}

-- these characters are encoded as these bytes
pub record IsText (cs bs : List ℕ) : Type 0 where
  pub scalars : all_scalars cs ≡ true
  pub bytes : encode_utf8_all cs ≡ bs

all_of : (cs ds : List ℕ) → all_scalars cs ≡ true → all_scalars ds ≡ true → all_scalars (cs ++ ds) ≡ true
all_of [] ds p q = q
all_of (c ∷ cs) ds p q = ap (λ b. b && all_scalars (cs ++ ds)) (and_left _ (all_scalars cs) p) ∙ all_of cs ds (and_right _ (all_scalars cs) p) q

pub text-append : {cs ds bs es : List ℕ} → IsText cs bs → IsText ds es → IsText (cs ++ ds) (bs ++ es)
text-append {cs} {ds} {bs} {es} p q = record {
  scalars = all_of cs ds p.scalars q.scalars;
  bytes = encodes-append cs ds ∙ (ap (λ l. l ++ encode_utf8_all ds) p.bytes ∙ ap (λ l. bs ++ l) q.bytes);
}

pub text-ascii : (cs : List ℕ) → IsAscii cs → IsText cs cs
text-ascii cs h = record { scalars = ap all_scalars (sym (chars-IsAscii cs h)) ∙ scalars-chars cs (IsUtf8-from_ascii cs h); bytes = encodes-IsAscii cs h }

text-none : IsText [] []
text-none = record { scalars = refl; bytes = refl }

text-quote : IsText (39 ∷ []) (39 ∷ [])
unfolding encode_utf8
text-quote = record { scalars = refl; bytes = refl }

text-space : IsText (32 ∷ []) (32 ∷ [])
unfolding encode_utf8
text-space = record { scalars = refl; bytes = refl }

abbrev IsEscapedText : ℕ → Type 0
IsEscapedText c = IsText (escaped_char c) (escaped c)

abbrev ByCode : ℕ → Type 0
ByCode c = IsText (codes "\\x" ++ hexadecimal c ++ codes "\\") (codes "\\x" ++ hexadecimal c ++ codes "\\")

control_texts : EachBelow ByCode 32
unfolding encode_utf8
control_texts = ((((((((((((((((((((((((((((((((tt, record { scalars = refl; bytes = refl }), record { scalars = refl; bytes = refl }), record { scalars = refl; bytes = refl }), record { scalars = refl; bytes = refl }), record { scalars = refl; bytes = refl }), record { scalars = refl; bytes = refl }), record { scalars = refl; bytes = refl }), record { scalars = refl; bytes = refl }), record { scalars = refl; bytes = refl }), record { scalars = refl; bytes = refl }), record { scalars = refl; bytes = refl }), record { scalars = refl; bytes = refl }), record { scalars = refl; bytes = refl }), record { scalars = refl; bytes = refl }), record { scalars = refl; bytes = refl }), record { scalars = refl; bytes = refl }), record { scalars = refl; bytes = refl }), record { scalars = refl; bytes = refl }), record { scalars = refl; bytes = refl }), record { scalars = refl; bytes = refl }), record { scalars = refl; bytes = refl }), record { scalars = refl; bytes = refl }), record { scalars = refl; bytes = refl }), record { scalars = refl; bytes = refl }), record { scalars = refl; bytes = refl }), record { scalars = refl; bytes = refl }), record { scalars = refl; bytes = refl }), record { scalars = refl; bytes = refl }), record { scalars = refl; bytes = refl }), record { scalars = refl; bytes = refl }), record { scalars = refl; bytes = refl }), record { scalars = refl; bytes = refl })

delete_text : ByCode 127
unfolding encode_utf8
delete_text = record { scalars = refl; bytes = refl }

backslash_text : IsEscapedText 92
unfolding encode_utf8
backslash_text = record { scalars = refl; bytes = refl }

single_text : IsEscapedText 39
unfolding encode_utf8
single_text = record { scalars = refl; bytes = refl }

feed_text : IsEscapedText 10
unfolding encode_utf8
feed_text = record { scalars = refl; bytes = refl }

sign_text : IsText (95 ∷ []) (95 ∷ [])
unfolding encode_utf8
sign_text = record { scalars = refl; bytes = refl }

-- a character that is escaped, or one that stands for itself
escaped-text : (c : ℕ) → all_scalars (c ∷ []) ≡ true → IsEscapedText c
escaped-text c h = named (c == 92) (c == 39) refl refl
  where
    plain : (a b : Bool) → nat_lt c 32 ≡ a → (c == 127) ≡ b → (c == 92) ≡ false → (c == 39) ≡ false → (c == 10) ≡ false → IsEscapedText c
    plain true b p q e f g = rw (e, f, g, p) (below ByCode 32 c control_texts (grind (arith, p)))
    plain false true p q e f g = let same : 127 ≡ c = sym (same_number c 127 q) in rw (e, f, g, p, q) (subst ByCode same delete_text)
    plain false false p q e f g = rw (e, f, g, p, q) (record { scalars = h; bytes = append-nil (encode_utf8 c) })

    feed : (b : Bool) → (c == 10) ≡ b → (c == 92) ≡ false → (c == 39) ≡ false → IsEscapedText c
    feed true q e f = let same : 10 ≡ c = sym (same_number c 10 q) in subst IsEscapedText same feed_text
    feed false q e f = plain (nat_lt c 32) (c == 127) refl refl e f q

    named : (a b : Bool) → (c == 92) ≡ a → (c == 39) ≡ b → IsEscapedText c
    named true b e f = let same : 92 ≡ c = sym (same_number c 92 e) in subst IsEscapedText same backslash_text
    named false true e f = let same : 39 ≡ c = sym (same_number c 39 f) in subst IsEscapedText same single_text
    named false false e f = feed (c == 10) refl e f

escaped-texts : (n : List ℕ) → all_scalars n ≡ true → IsText (escaped_chars n) (escaped_all n)
escaped-texts [] h = text-none
escaped-texts (c ∷ n) h =
    let one : all_scalars (c ∷ []) ≡ true = ap (λ b. b && true) (and_left _ (all_scalars n) h) in
    text-append (escaped-text c one) (escaped-texts n (and_right _ (all_scalars n) h))

decimal-text : (k : ℕ) → k < 2 ^ 64 → IsText (decimal k) (decimal k)
decimal-text k h = text-ascii (decimal k) (IsAscii-decimal k h)

Open_text : IsText (40 ∷ []) (40 ∷ [])
unfolding encode_utf8
Open_text = record { scalars = refl; bytes = refl }

Close_text : IsText (41 ∷ []) (41 ∷ [])
unfolding encode_utf8
Close_text = record { scalars = refl; bytes = refl }

OpenList_text : IsText (91 ∷ []) (91 ∷ [])
unfolding encode_utf8
OpenList_text = record { scalars = refl; bytes = refl }

CloseList_text : IsText (93 ∷ []) (93 ∷ [])
unfolding encode_utf8
CloseList_text = record { scalars = refl; bytes = refl }

OpenCurly_text : IsText (123 ∷ []) (123 ∷ [])
unfolding encode_utf8
OpenCurly_text = record { scalars = refl; bytes = refl }

CloseCurly_text : IsText (125 ∷ []) (125 ∷ [])
unfolding encode_utf8
CloseCurly_text = record { scalars = refl; bytes = refl }

Comma_text : IsText (44 ∷ []) (44 ∷ [])
unfolding encode_utf8
Comma_text = record { scalars = refl; bytes = refl }

Bar_text : IsText (124 ∷ []) (124 ∷ [])
unfolding encode_utf8
Bar_text = record { scalars = refl; bytes = refl }

End_text : IsText (46 ∷ []) (46 ∷ [])
unfolding encode_utf8
End_text = record { scalars = refl; bytes = refl }

token-text : (is_spaced : Bool) (x : Lexeme) → IsFine is_spaced x → IsText (token_chars x) (quoted_text x)
token-text s (Name n) w = record { scalars = w.1; bytes = refl }
token-text s (QuotedName n) w = text-append text-quote (text-append (escaped-texts n w) text-quote)
token-text s (Variable n) w =
    let t : IsText (95 ∷ decimal w.number) (95 ∷ decimal w.number) = text-append sign_text (decimal-text w.number w.small) in
    record { scalars = subst (λ m. all_scalars m ≡ true) (sym w.is) t.scalars; bytes = refl }
token-text s (Integer k) w = decimal-text k (omega arith)
token-text s (Text cs) w = absurd w
token-text s Open w = Open_text
token-text s Close w = Close_text
token-text s OpenList w = OpenList_text
token-text s CloseList w = CloseList_text
token-text s OpenCurly w = OpenCurly_text
token-text s CloseCurly w = CloseCurly_text
token-text s Comma w = Comma_text
token-text s Bar w = Bar_text
token-text s End w = End_text

spaced-text : (apart is_spaced : Bool) (x : Lexeme) → IsFine is_spaced x → IsText (token_text_chars (token apart x)) (text_of_token quoted_text (token apart x))
spaced-text true s x w = text-append text-space (token-text s x w)
spaced-text false s x w = token-text s x w

pub pieces-text : (is_spaced hot : Bool) (before : InFront) (ps : List Piece) → Well is_spaced hot ps → IsText (pieces_chars before ps) (text_of_tokens quoted_text (joined_pieces before ps))
pieces-text s hot before [] w = text-none
pieces-text s hot before (Space ∷ ps) w = pieces-text true false SpaceInFront ps w
pieces-text s hot before (Put x ∷ ps) w = text-append (spaced-text (are_separate before x) s x w.1) (pieces-text false (takes_quote x) (TokenInFront (ends_of x)) ps w.3)

-- ---- each token takes a character

token-some : (is_spaced : Bool) (x : Lexeme) → IsFine is_spaced x → 0 < length (token_chars x)
token-some s (Name []) w = let f : ⊥ = cc in absurd f
token-some s (Name (c ∷ n)) w = omega arith
token-some s (QuotedName n) w = omega arith
token-some s (Variable n) w = subst (λ m. 0 < length m) (sym w.is) (omega arith)
token-some s (Integer k) w = decimal_nonempty k (omega arith)
token-some s (Text cs) w = absurd w
token-some s Open w = omega arith
token-some s Close w = omega arith
token-some s OpenList w = omega arith
token-some s CloseList w = omega arith
token-some s OpenCurly w = omega arith
token-some s CloseCurly w = omega arith
token-some s Comma w = omega arith
token-some s Bar w = omega arith
token-some s End w = omega arith

spaced-some : (apart is_spaced : Bool) (x : Lexeme) → IsFine is_spaced x → 0 < length (token_text_chars (token apart x))
spaced-some true s x w = omega arith
spaced-some false s x w = token-some s x w

tokens-few : (is_spaced hot : Bool) (before : InFront) (ps : List Piece) → Well is_spaced hot ps → length (joined_pieces before ps) ≤ length (pieces_chars before ps)
tokens-few s hot before [] w = omega arith
tokens-few s hot before (Space ∷ ps) w = tokens-few true false SpaceInFront ps w
tokens-few s hot before (Put x ∷ ps) w =
    let some = spaced-some (are_separate before x) s x w.1 in
    let later = tokens-few false (takes_quote x) (TokenInFront (ends_of x)) ps w.3 in
    omega (arith, some, later, length-append (token_text_chars (token (are_separate before x) x)) (pieces_chars (TokenInFront (ends_of x)) ps))

-- the text of well-formed pieces is read as their tokens, and nothing is left
pub pieces-front : (is_spaced hot : Bool) (before : InFront) (ps : List Piece) → Well is_spaced hot ps → front (chars (text_of_tokens quoted_text (joined_pieces before ps))) ≡ whole (joined_pieces before ps)
unfolding front
pieces-front s hot before ps w =
    let t = pieces-text s hot before ps w in
    let cs : chars (text_of_tokens quoted_text (joined_pieces before ps)) ≡ pieces_chars before ps = ap chars (sym t.bytes) ∙ chars-encodes (pieces_chars before ps) t.scalars in
    ap front cs ∙ scan-pieces s hot before ps w (length (pieces_chars before ps)) (tokens-few s hot before ps w)
