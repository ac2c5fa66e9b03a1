-- The tokens of a text by the first of them.
use Rattle.std.proofs.Common.{◌≡◌, ◌∙◌, ℕ, ◌≤◌, ◌<◌, Bool, true, false, List, [], ◌∷◌, length, Some, refl, sym, ap, arith, if◌then◌else◌}
use Rattle.au_model.specs.Syntax.Characters.{chars_from}
use Rattle.au_model.specs.Syntax.Layout.{begins_layout}
use Rattle.au_model.specs.Syntax.Words.{word_after}
use Rattle.au_model.specs.Syntax.Operators.{OperatorTable}
use Rattle.au_model.specs.Syntax.Tokens.{Lexeme, End, Token, token, lexeme_of, Scanned, ScannedTo, ScannedNone, scanned_lexeme, scanned_word, scanned, front_with, no_front, is_end, after_scanned, front, tokens_of}
use Rattle.au_model.specs.Syntax.Primaries.{ends_operand_before, prefix_is_atom}
use Rattle.token_scan.specs.NextToken.{word_of, IsNextToken}
use Rattle.token_scan.specs.declared.token.Token.{Token as Place}
use Rattle.term_reader.proofs.TokenSequenceLemmas.{front-token, scanned-shorter}

pub front-scanned : (cs : List ℕ) (s : Scanned) → scanned cs ≡ s → front cs ≡ after_scanned front cs s
front-scanned cs s e = front-token cs ∙ ap (after_scanned front cs) e

pub tokens-none : (cs : List ℕ) → scanned cs ≡ ScannedNone → tokens_of cs ≡ []
tokens-none cs e = ap (λ f. f.tokens) (front-scanned cs ScannedNone e)

pub front-more : (cs rest : List ℕ) (a : Bool) (x : Lexeme) → scanned cs ≡ ScannedTo (token a x) rest → is_end x ≡ false → front cs ≡ front_with (token a x) (front rest)
front-more cs rest a x e n = front-scanned cs (ScannedTo (token a x) rest) e ∙ ap (λ b. if b then front_with (token a x) (no_front rest) else front_with (token a x) (front rest)) n

pub tokens-more : (cs rest : List ℕ) (a : Bool) (x : Lexeme) → scanned cs ≡ ScannedTo (token a x) rest → is_end x ≡ false → tokens_of cs ≡ token a x ∷ tokens_of rest
tokens-more cs rest a x e n = ap (λ f. f.tokens) (front-more cs rest a x e n)

pub front-end : (cs rest : List ℕ) (a : Bool) → scanned cs ≡ ScannedTo (token a End) rest → front cs ≡ front_with (token a End) (no_front rest)
front-end cs rest a e = front-scanned cs (ScannedTo (token a End) rest) e

pub tokens-end : (cs rest : List ℕ) (a : Bool) → scanned cs ≡ ScannedTo (token a End) rest → tokens_of cs ≡ token a End ∷ []
tokens-end cs rest a e = ap (λ f. f.tokens) (front-end cs rest a e)

-- the first token, whatever follows
pub record First (cs : List ℕ) (t : Token) : Type 0 where
  pub more : List Token
  pub is : tokens_of cs ≡ t ∷ more

pub tokens-first : (cs rest : List ℕ) (a : Bool) (x : Lexeme) → scanned cs ≡ ScannedTo (token a x) rest → First cs (token a x)
tokens-first cs rest a x e = go (is_end x) refl where
  go : (b : Bool) → is_end x ≡ b → First cs (token a x)
  go true h = record {
    more = [];
    is = ap (λ f. f.tokens) (front-scanned cs (ScannedTo (token a x) rest) e ∙ ap (λ b. if b then front_with (token a x) (no_front rest) else front_with (token a x) (front rest)) h);
  }
  go false h = record { more = tokens_of rest; is = tokens-more cs rest a x e h }

pub alone-is : (ops : OperatorTable) (cs rest : List ℕ) (a : Bool) (x : Lexeme) → scanned cs ≡ ScannedTo (token a x) rest → prefix_is_atom ops (tokens_of cs) ≡ ends_operand_before ops x (tokens_of rest)
alone-is ops cs rest a End e = ap (prefix_is_atom ops) (tokens-end cs rest a e)
alone-is ops cs rest a x e = ap (prefix_is_atom ops) (tokens-more cs rest a x e refl)

pub alone-none : (ops : OperatorTable) (cs : List ℕ) → scanned cs ≡ ScannedNone → prefix_is_atom ops (tokens_of cs) ≡ true
alone-none ops cs e = ap (prefix_is_atom ops) (tokens-none cs e)

pub next-scanned : (text : List ℕ) (at : ℕ) (t : Place) (x : Lexeme) → IsNextToken text at t → lexeme_of (word_of text t) ≡ Some x
    → scanned (chars_from text at) ≡ ScannedTo (token t.layout_before x) (chars_from text t.end)
next-scanned text at t x h e =
    ap (λ g. scanned_word (begins_layout (chars_from text at)) (word_after g)) h.layout
    ∙ (ap (scanned_word (begins_layout (chars_from text at))) h.token.word
    ∙ (ap (scanned_lexeme (begins_layout (chars_from text at)) (chars_from text t.end)) e
    ∙ ap (λ b. ScannedTo (token b x) (chars_from text t.end)) (sym h.before)))

-- a token ends after the place from which it was scanned
pub ends-after : (text : List ℕ) (at end : ℕ) (t : Token) → scanned (chars_from text at) ≡ ScannedTo t (chars_from text end) → at ≤ end → at < end
ends-after text at end t e le =
    let s = scanned-shorter (chars_from text at) (chars_from text end) t e in
    let apart : at ≡ end → ⊥ = (λ (k : at ≡ end). let same = ap (λ n. length (chars_from text n)) k in let f : ⊥ = omega arith in f) in
    omega arith
