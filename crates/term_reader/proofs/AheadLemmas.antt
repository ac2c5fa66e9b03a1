-- What a token seen ahead is, by its kind.
use Rattle.std.proofs.Common.{◌≡◌, ◌∙◌, ◌==◌, ℕ, Bool, true, false, if◌then◌else◌, List, [], ◌∷◌, Some, refl, sym, ap, arith}
use Rattle.au_model.specs.Syntax.Characters.{chars_from}
use Rattle.au_model.specs.Syntax.Tokens as words
use Rattle.au_model.specs.Syntax.Tokens.{lexeme_of, mark_lexeme, tokens_of}
use Rattle.au_model.specs.Syntax.Words.{Word, NameWord, QuotedWord, VariableWord, IntegerWord, TextWord, MarkWord, StopWord, LastWord, word_characters, word_number}
use Rattle.au_model.specs.Syntax.Operators.{OperatorTable}
use Rattle.au_model.specs.Syntax.Primaries.{ends_operand_before, prefix_is_atom}
use Rattle.token_scan.specs.NextToken.{kind_of, word_of, IsNextToken}
use Rattle.token_scan.specs.declared.token.Token.{Token}
use Rattle.token_scan.specs.declared.token.TokenKind.{TokenKind}
use Rattle.token_scan.specs.declared.token.TokenKind.TheVariants.{Name, QuotedName, Variable, Integer, Punctuation, End, EndOfText}
use Rattle.term_reader.specs.declared.lexeme.Lexeme.{Lexeme}
use Rattle.term_reader.specs.declared.lexeme.Lexeme.TheVariants as lex
use Rattle.term_reader.specs.declared.lookahead.Follow.TheVariants.{Other}
use Rattle.term_reader.specs.LexemeView.{lexeme_meant, IsNarrow}
use Rattle.term_reader.specs.PrimaryView.{is_ending_mark}
use Rattle.term_reader.specs.FollowingToken.{follow_of, IsFollowingAt}
use Rattle.term_reader.proofs.FirstTokenLemmas.{alone-is, next-scanned}
use Rattle.term_reader.proofs.FollowingTokenLemmas.{follow-is}

-- ---- the word of a kind

pub mark-word : (w : Word) (k : TokenKind) (x : Lexeme) (cs : List ℕ) → k ≡ kind_of w → k ≡ Punctuation → cs ≡ word_characters w
    → ((c : ℕ) → cs ≡ c ∷ [] → lexeme_meant x ≡ mark_lexeme c) → lexeme_of w ≡ Some (lexeme_meant x)
mark-word (NameWord ds) k x cs e h f g = let z : ⊥ = cc in absurd z
mark-word (QuotedWord ds) k x cs e h f g = let z : ⊥ = cc in absurd z
mark-word (VariableWord ds) k x cs e h f g = let z : ⊥ = cc in absurd z
mark-word (IntegerWord n) k x cs e h f g = let z : ⊥ = cc in absurd z
mark-word (TextWord ds) k x cs e h f g = let z : ⊥ = cc in absurd z
mark-word (MarkWord c) k x cs e h f g = ap Some (sym (g c f))
mark-word StopWord k x cs e h f g = let z : ⊥ = cc in absurd z
mark-word LastWord k x cs e h f g = let z : ⊥ = cc in absurd z

pub integer-word : (w : Word) (k : TokenKind) (n : ℕ) → k ≡ kind_of w → k ≡ Integer → n ≡ word_number w → lexeme_of w ≡ Some (words.Integer n)
integer-word (NameWord ds) k n e h f = let z : ⊥ = cc in absurd z
integer-word (QuotedWord ds) k n e h f = let z : ⊥ = cc in absurd z
integer-word (VariableWord ds) k n e h f = let z : ⊥ = cc in absurd z
integer-word (IntegerWord m) k n e h f = ap (λ i. Some (words.Integer i)) (sym f)
integer-word (TextWord ds) k n e h f = let z : ⊥ = cc in absurd z
integer-word (MarkWord c) k n e h f = let z : ⊥ = cc in absurd z
integer-word StopWord k n e h f = let z : ⊥ = cc in absurd z
integer-word LastWord k n e h f = let z : ⊥ = cc in absurd z

pub name-word : (w : Word) (k : TokenKind) (cs : List ℕ) → k ≡ kind_of w → k ≡ Name → cs ≡ word_characters w → lexeme_of w ≡ Some (words.Name cs)
name-word (NameWord ds) k cs e h f = ap (λ i. Some (words.Name i)) (sym f)
name-word (QuotedWord ds) k cs e h f = let z : ⊥ = cc in absurd z
name-word (VariableWord ds) k cs e h f = let z : ⊥ = cc in absurd z
name-word (IntegerWord m) k cs e h f = let z : ⊥ = cc in absurd z
name-word (TextWord ds) k cs e h f = let z : ⊥ = cc in absurd z
name-word (MarkWord c) k cs e h f = let z : ⊥ = cc in absurd z
name-word StopWord k cs e h f = let z : ⊥ = cc in absurd z
name-word LastWord k cs e h f = let z : ⊥ = cc in absurd z

pub quoted-word : (w : Word) (k : TokenKind) (cs : List ℕ) → k ≡ kind_of w → k ≡ QuotedName → cs ≡ word_characters w → lexeme_of w ≡ Some (words.QuotedName cs)
quoted-word (NameWord ds) k cs e h f = let z : ⊥ = cc in absurd z
quoted-word (QuotedWord ds) k cs e h f = ap (λ i. Some (words.QuotedName i)) (sym f)
quoted-word (VariableWord ds) k cs e h f = let z : ⊥ = cc in absurd z
quoted-word (IntegerWord m) k cs e h f = let z : ⊥ = cc in absurd z
quoted-word (TextWord ds) k cs e h f = let z : ⊥ = cc in absurd z
quoted-word (MarkWord c) k cs e h f = let z : ⊥ = cc in absurd z
quoted-word StopWord k cs e h f = let z : ⊥ = cc in absurd z
quoted-word LastWord k cs e h f = let z : ⊥ = cc in absurd z

pub end-word : (w : Word) (k : TokenKind) → k ≡ kind_of w → k ≡ End → lexeme_of w ≡ Some words.End
end-word (NameWord ds) k e h = let z : ⊥ = cc in absurd z
end-word (QuotedWord ds) k e h = let z : ⊥ = cc in absurd z
end-word (VariableWord ds) k e h = let z : ⊥ = cc in absurd z
end-word (IntegerWord m) k e h = let z : ⊥ = cc in absurd z
end-word (TextWord ds) k e h = let z : ⊥ = cc in absurd z
end-word (MarkWord c) k e h = let z : ⊥ = cc in absurd z
end-word StopWord k e h = refl
end-word LastWord k e h = let z : ⊥ = cc in absurd z

-- ---- what follows

pub follow-ahead : (text : List ℕ) (at : ℕ) (t : Token) (x : Lexeme) → IsNextToken text at t → lexeme_of (word_of text t) ≡ Some (lexeme_meant x) → IsNarrow x
    → IsFollowingAt text at (follow_of t.layout_before (lexeme_meant x) t.end)
follow-ahead text at t x h e narrow =
    follow-is text at t.end t.layout_before x (next-scanned text at t (lexeme_meant x) h e) (omega (arith, h.from, h.token.order), h.token.last) narrow

pub follow-other : (text : List ℕ) (at : ℕ) (t : Token) → IsNextToken text at t → (t.kind ≡ EndOfText → ⊥) → (t.kind ≡ Punctuation → ⊥) → (t.kind ≡ Integer → ⊥) → IsFollowingAt text at Other
follow-other text at t h some no_mark no_integer = go (word_of text t) refl where
  go : (w : Word) → word_of text t ≡ w → IsFollowingAt text at Other
  go (NameWord cs) e = follow-ahead text at t (lex.Name cs) h (ap lexeme_of e) tt
  go (QuotedWord cs) e = follow-ahead text at t (lex.QuotedName cs) h (ap lexeme_of e) tt
  go (VariableWord cs) e = follow-ahead text at t (lex.Variable cs) h (ap lexeme_of e) tt
  go (IntegerWord n) e = absurd (no_integer (h.token.kind ∙ ap kind_of e))
  go (TextWord cs) e = follow-ahead text at t (lex.Text cs) h (ap lexeme_of e) tt
  go (MarkWord c) e = absurd (no_mark (h.token.kind ∙ ap kind_of e))
  go StopWord e = follow-ahead text at t lex.End h (ap lexeme_of e) tt
  go LastWord e = absurd (some (h.token.kind ∙ ap kind_of e))

-- ---- a prefix operator in front of it

marks-close : (ops : OperatorTable) (ts : List words.Token) (a b d e f g h : Bool) → (x : words.Lexeme)
    → x ≡ (if a then words.Open else if b then words.Close else if d then words.OpenList else if e then words.CloseList else if f then words.OpenCurly else if g then words.CloseCurly else if h then words.Comma else words.Bar)
    → ends_operand_before ops x ts ≡ is_ending_mark x
marks-close ops ts true b d e f g h x i = rw i refl
marks-close ops ts false true d e f g h x i = rw i refl
marks-close ops ts false false true e f g h x i = rw i refl
marks-close ops ts false false false true f g h x i = rw i refl
marks-close ops ts false false false false true g h x i = rw i refl
marks-close ops ts false false false false false true h x i = rw i refl
marks-close ops ts false false false false false false true x i = rw i refl
marks-close ops ts false false false false false false false x i = rw i refl

-- of the marks, those that end an operand
pub mark-closes : (ops : OperatorTable) (w : Word) (k : TokenKind) (x : Lexeme) (cs : List ℕ) (ts : List words.Token) → k ≡ kind_of w → k ≡ Punctuation → cs ≡ word_characters w
    → ((c : ℕ) → cs ≡ c ∷ [] → lexeme_meant x ≡ mark_lexeme c) → ends_operand_before ops (lexeme_meant x) ts ≡ is_ending_mark (lexeme_meant x)
mark-closes ops (NameWord ds) k x cs ts e h f g = let z : ⊥ = cc in absurd z
mark-closes ops (QuotedWord ds) k x cs ts e h f g = let z : ⊥ = cc in absurd z
mark-closes ops (VariableWord ds) k x cs ts e h f g = let z : ⊥ = cc in absurd z
mark-closes ops (IntegerWord n) k x cs ts e h f g = let z : ⊥ = cc in absurd z
mark-closes ops (TextWord ds) k x cs ts e h f g = let z : ⊥ = cc in absurd z
mark-closes ops (MarkWord c) k x cs ts e h f g = marks-close ops ts (c == 40) (c == 41) (c == 91) (c == 93) (c == 123) (c == 125) (c == 44) (lexeme_meant x) (g c f)
mark-closes ops StopWord k x cs ts e h f g = let z : ⊥ = cc in absurd z
mark-closes ops LastWord k x cs ts e h f g = let z : ⊥ = cc in absurd z

pub alone-ahead : (ops : OperatorTable) (text : List ℕ) (at : ℕ) (t : Token) (x : words.Lexeme) → IsNextToken text at t → lexeme_of (word_of text t) ≡ Some x
    → prefix_is_atom ops (tokens_of (chars_from text at)) ≡ ends_operand_before ops x (tokens_of (chars_from text t.end))
alone-ahead ops text at t x h e = alone-is ops _ _ t.layout_before x (next-scanned text at t x h e)

pub alone-other : (ops : OperatorTable) (text : List ℕ) (at : ℕ) (t : Token) → IsNextToken text at t → (t.kind ≡ EndOfText → ⊥) → (t.kind ≡ End → ⊥) → (t.kind ≡ Punctuation → ⊥) → (t.kind ≡ Name → ⊥)
    → (t.kind ≡ QuotedName → ⊥) → prefix_is_atom ops (tokens_of (chars_from text at)) ≡ false
alone-other ops text at t h some no_end no_mark no_name no_quoted = go (word_of text t) refl where
  go : (w : Word) → word_of text t ≡ w → prefix_is_atom ops (tokens_of (chars_from text at)) ≡ false
  go (NameWord cs) e = absurd (no_name (h.token.kind ∙ ap kind_of e))
  go (QuotedWord cs) e = absurd (no_quoted (h.token.kind ∙ ap kind_of e))
  go (VariableWord cs) e = alone-ahead ops text at t (words.Variable cs) h (ap lexeme_of e)
  go (IntegerWord n) e = alone-ahead ops text at t (words.Integer n) h (ap lexeme_of e)
  go (TextWord cs) e = alone-ahead ops text at t (words.Text cs) h (ap lexeme_of e)
  go (MarkWord c) e = absurd (no_mark (h.token.kind ∙ ap kind_of e))
  go StopWord e = absurd (no_end (h.token.kind ∙ ap kind_of e))
  go LastWord e = absurd (some (h.token.kind ∙ ap kind_of e))
