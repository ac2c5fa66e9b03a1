-- Whole readings of a text.
use Rattle.std.proofs.Common.{◌≡◌, ◌∙◌, ℕ, Bool, true, false, List, [], None, refl, sym, ap, subst}
use Rattle.au_model.specs.Syntax.Characters.{chars_from}
use Rattle.au_model.specs.Syntax.Tokens.{lexeme_of, tokens_of}
use Rattle.au_model.specs.Syntax.Words.{Word, NameWord, QuotedWord, VariableWord, IntegerWord, TextWord, MarkWord, StopWord, LastWord, FoundWord, word_after, next_word}
use Rattle.au_model.specs.Syntax.Trees.{Tree}
use Rattle.au_model.specs.Syntax.Primaries.{Setting}
use Rattle.au_model.specs.Syntax.TermTexts.{SpellsTermWithEnd, is_last, is_over}
use Rattle.token_scan.specs.NextToken.{kind_of, word_of, IsNextToken, IsTokenFault}
use Rattle.token_scan.specs.declared.token.Token.{Token as Place}
use Rattle.token_scan.specs.declared.token.BadToken.{BadToken}
use Rattle.token_scan.specs.declared.token.TokenKind.{TokenKind}
use Rattle.token_scan.specs.declared.token.TokenKind.TheVariants.{EndOfText}
use Rattle.term_reader.specs.Positions.{Position, Completes, HasReadTo, rest_at}
use Rattle.term_reader.specs.Completion.{CompletesOperand}
use Rattle.term_reader.proofs.ScannedTokenLemmas.{scans-tokens, scans-rest}
use Rattle.term_reader.specs.ReadTerm.{NoTerm}
use Rattle.term_reader.proofs.CompletionStepLemmas.{starts, reaches}

next-is : (text : List ℕ) (at : ℕ) (t : Place) → IsNextToken text at t → next_word (chars_from text at) ≡ FoundWord (word_of text t) (chars_from text t.end)
next-is text at t h = ap word_after h.layout ∙ h.token.word

last-is : (w : Word) (rest : List ℕ) (k : TokenKind) → k ≡ kind_of w → k ≡ EndOfText → is_last (FoundWord w rest) ≡ true
last-is LastWord rest k e h = refl
last-is w rest k e h = let z : ⊥ = cc in absurd z

last-not : (w : Word) (rest : List ℕ) (k : TokenKind) → k ≡ kind_of w → (k ≡ EndOfText → ⊥) → is_last (FoundWord w rest) ≡ false
last-not LastWord rest k e h = absurd (h e)
last-not w rest k e h = refl

pub over-is : (text : List ℕ) (at : ℕ) (t : Place) → IsNextToken text at t → t.kind ≡ EndOfText → is_over (chars_from text at) ≡ true
over-is text at t h e = ap is_last (next-is text at t h) ∙ last-is (word_of text t) _ t.kind h.token.kind e

last-none : (w : Word) (rest : List ℕ) → lexeme_of w ≡ None → is_last (FoundWord w rest) ≡ true
last-none LastWord rest e = refl
last-none (NameWord cs) rest e = let z : ⊥ = cc in absurd z
last-none (QuotedWord cs) rest e = let z : ⊥ = cc in absurd z
last-none (VariableWord cs) rest e = let z : ⊥ = cc in absurd z
last-none (IntegerWord n) rest e = let z : ⊥ = cc in absurd z
last-none (TextWord cs) rest e = let z : ⊥ = cc in absurd z
last-none (MarkWord c) rest e = let z : ⊥ = cc in absurd z
last-none StopWord rest e = let z : ⊥ = cc in absurd z

pub over-none : (text : List ℕ) (at : ℕ) (t : Place) → IsNextToken text at t → lexeme_of (word_of text t) ≡ None → is_over (chars_from text at) ≡ true
over-none text at t h e = ap is_last (next-is text at t h) ∙ last-none (word_of text t) _ e

pub over-not : (text : List ℕ) (at : ℕ) (t : Place) → IsNextToken text at t → (t.kind ≡ EndOfText → ⊥) → is_over (chars_from text at) ≡ false
over-not text at t h e = ap is_last (next-is text at t h) ∙ last-not (word_of text t) _ t.kind h.token.kind e

pub over-fault : (text : List ℕ) (at : ℕ) (e : BadToken) → IsTokenFault (next_word (chars_from text at)) text at e → is_over (chars_from text at) ≡ false
over-fault text at e h = ap is_last h.fault

-- the whole term
pub spelled : (s : Setting) (text : List ℕ) (at mid end : ℕ) (x : Position) (t : Tree) (d : Bool) → HasReadTo s text at x mid d → Completes s x (tokens_of (chars_from text mid)) t → rest_at text mid ≡ chars_from text end
    → SpellsTermWithEnd s (chars_from text at) t (chars_from text end)
spelled s text at mid end x t d l r e =
    let w = l.back (tokens_of (chars_from text mid)) t l.fits r in
    let z = reaches s (tokens_of (chars_from text at)) t (subst (λ ts. CompletesOperand s [] ts t) (sym (scans-tokens l.scans)) w) in
    record { apart = z.apart; spelled = z.is; left = scans-rest l.scans ∙ e }

pub no_term : (s : Setting) (text : List ℕ) (at mid : ℕ) (x : Position) (d : Bool) → HasReadTo s text at x mid d → ((goal : Tree) → Completes s x (tokens_of (chars_from text mid)) goal → ⊥) → NoTerm s (chars_from text at)
no_term s text at mid x d l n t rest h =
    n t (l.to (tokens_of (chars_from text mid)) t l.fits (subst (λ ts. CompletesOperand s [] ts t) (scans-tokens l.scans) (starts s h.spelled)))
