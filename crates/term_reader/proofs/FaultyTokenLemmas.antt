-- The fault of a text where no token goes on.
use Rattle.std.proofs.Common.{◌≡◌, ◌∙◌, ℕ, ◌^◌, nat_le, Bool, true, false, List, [], ◌∷◌, ◌++◌, length, slice_get, Some, refl, sym, ap, subst, arith, append-nil, IsCharBoundary, if◌then◌else◌}
use Rattle.std.proofs.Math.Seq.{drop-length}
use Rattle.std.proofs.lemmas.Str.{chars-nil, IsCharBoundary-from_drop, IsUtf8-nil}
use Rattle.std.specs.Str.{chars, IsUtf8}
use Rattle.au_model.specs.Syntax.Characters.{chars_from}
use Rattle.au_model.specs.Syntax.Layout.{GapThen, after_layout, begins_layout}
use Rattle.au_model.specs.Syntax.Words.{NameWord, QuotedWord, VariableWord, IntegerWord, TextWord, MarkWord, StopWord, LastWord, Lexed, FoundWord, FoundFault, next_word}
use Rattle.au_model.specs.Syntax.Tokens as words
use Rattle.au_model.specs.Syntax.Tokens.{Lexeme, token, scanned, scanned_word, ScannedTo, ScannedNone, front, tokens_of}
use Rattle.au_model.specs.Syntax.Primaries.{Setting}
use Rattle.au_model.specs.Syntax.TermTexts.{is_last, is_over}
use Rattle.au_model.specs.declared.types.FaultKind.{FaultKind}
use Rattle.au_model.specs.declared.types.FaultKind.TheVariants.{UnexpectedToken, UnexpectedEnd, WideNumeral}
use Rattle.au_model.specs.Syntax.TextFaults.{BeginsTerm, FaultAt, IsOneTooMany, is_wide, token_start, Fault, unexpected, wide, faulty, ended}
use Rattle.term_reader.specs.Refusals.{IsStuck, unexpected_kind, IsFirstFault}
use Rattle.term_reader.specs.LexemeView.{IsStart}
use Rattle.term_reader.specs.declared.refusal.Refused.{Refused}
use Rattle.token_scan.specs.NextToken.{IsTokenFault as BadFault}
use Rattle.token_scan.specs.declared.token.BadToken.{BadToken}
use Rattle.term_reader.proofs.FirstTokenLemmas.{front-scanned, tokens-none, tokens-first}
use Rattle.term_reader.proofs.ScannedTokenLemmas.{scans-tokens, scans-rest, scans-first}
use Rattle.term_reader.proofs.HasReadLemmas.{fault-of, get-after}

by-kind : (s : Setting) (cs from : List ℕ) (n : ℕ) (a : Bool) (x : Lexeme) → FaultAt s (tokens_of cs) n → slice_get (tokens_of cs) n ≡ Some (token a x) → ((m : ℕ) (name : List ℕ) → IsOneTooMany s (tokens_of cs) n m name → ⊥) → token_start n cs ≡ GapThen from
    → Fault s cs (unexpected_kind x) from
by-kind s cs from n a (words.Integer k) f e few h = go (nat_le (2 ^ 63) k) refl where
  go : (b : Bool) → nat_le (2 ^ 63) k ≡ b → Fault s cs (if b then WideNumeral else UnexpectedToken) from
  go true g = wide f (ap is_wide e ∙ g) h
  go false g = unexpected f (ap is_wide e ∙ g) few h
by-kind s cs from n a x f e few h = unexpected f (ap is_wide e) few h

pub no_word : (lx : Lexed) (b : Bool) → is_last lx ≡ true → scanned_word b lx ≡ ScannedNone
no_word (FoundWord LastWord rest) b e = refl
no_word (FoundWord (NameWord cs) rest) b e = let z : ⊥ = cc in absurd z
no_word (FoundWord (QuotedWord cs) rest) b e = let z : ⊥ = cc in absurd z
no_word (FoundWord (VariableWord cs) rest) b e = let z : ⊥ = cc in absurd z
no_word (FoundWord (IntegerWord n) rest) b e = let z : ⊥ = cc in absurd z
no_word (FoundWord (TextWord cs) rest) b e = let z : ⊥ = cc in absurd z
no_word (FoundWord (MarkWord c) rest) b e = let z : ⊥ = cc in absurd z
no_word (FoundWord StopWord rest) b e = let z : ⊥ = cc in absurd z
no_word (FoundFault kind from) b e = let z : ⊥ = cc in absurd z

pub none-over : (cs : List ℕ) → is_over cs ≡ true → scanned cs ≡ ScannedNone
none-over cs e = no_word (next_word cs) (begins_layout cs) e

pub none-faulty : (cs from : List ℕ) (kind : FaultKind) → next_word cs ≡ FoundFault kind from → scanned cs ≡ ScannedNone
none-faulty cs from kind e = ap (scanned_word (begins_layout cs)) e

pub at-end : (text : List ℕ) → chars_from text (length text) ≡ []
at-end text = ap chars (drop-length text) ∙ chars-nil

module _ (s : Setting) (text : List ℕ) (start at : ℕ) (h : IsStuck s text start at) where
  cs : List ℕ
  cs = chars_from text start

  pub stuck-found : (rest : List ℕ) (a : Bool) (x : Lexeme) (place : ℕ) → scanned (chars_from text at) ≡ ScannedTo (token a x) rest → after_layout (chars_from text at) ≡ GapThen (chars_from text place)
      → Fault s (chars_from text start) (unexpected_kind x) (chars_from text place)
  stuck-found rest a x place e g =
      let first = tokens-first (chars_from text at) rest a x e in
      let is : tokens_of (chars_from text start) ≡ h.read ++ token a x ∷ first.more = scans-tokens h.scans ∙ ap (λ ts. h.read ++ ts) first.is in
      by-kind s (chars_from text start) (chars_from text place) (length h.read) a x
      (fault-of s (tokens_of (chars_from text start)) h.read first.more (token a x) is h.begins (h.ends (token a x) first.more first.is))
      (ap (λ ts. slice_get ts (length h.read)) is ∙ get-after h.read first.more (token a x))
      (λ m name o. h.few (token a x) first.more first.is m name (subst (λ ts. IsOneTooMany s ts (length h.read) m name) is o))
      (ap after_layout (scans-first h.scans) ∙ g)

  begins-all : scanned (chars_from text at) ≡ ScannedNone → BeginsTerm s (tokens_of (chars_from text start))
  begins-all e =
      let is : tokens_of (chars_from text start) ≡ h.read = scans-tokens h.scans ∙ (ap (λ ts. h.read ++ ts) (tokens-none (chars_from text at) e) ∙ append-nil h.read) in
      subst (BeginsTerm s) (sym is) h.begins

  rest-is : scanned (chars_from text at) ≡ ScannedNone → (front (chars_from text start)).rest ≡ chars_from text at
  rest-is e = scans-rest h.scans ∙ ap (λ f. f.rest) (front-scanned (chars_from text at) ScannedNone e)

  pub stuck-faulty : (from : List ℕ) (kind : FaultKind) → next_word (chars_from text at) ≡ FoundFault kind from → Fault s (chars_from text start) kind from
  stuck-faulty from kind e =
      let n = none-faulty (chars_from text at) from kind e in
      faulty (begins-all n) (ap next_word (rest-is n) ∙ e)

  pub stuck-over : is_over (chars_from text at) ≡ true → Fault s (chars_from text start) UnexpectedEnd (chars_from text (length text))
  stuck-over e =
      let n = none-over (chars_from text at) e in
      subst (Fault s (chars_from text start) UnexpectedEnd) (sym (at-end text)) (ended (begins-all n) (ap is_over (rest-is n) ∙ e))

-- ---- what is refused

pub found-fault : (s : Setting) (text : List ℕ) (start at : ℕ) (rest : List ℕ) (a : Bool) (x : Lexeme) (place : ℕ) (r : Refused) → scanned (chars_from text at) ≡ ScannedTo (token a x) rest → IsStart text at place → IsStuck s text start at
    → r.at ≡ place → r.kind ≡ unexpected_kind x → IsFirstFault s text start r
found-fault s text start at rest a x place r e b h f g = record {
  place = subst (IsCharBoundary text) (sym f) b.0;
  fault = subst (λ n. Fault s (chars_from text start) r.kind (chars_from text n)) (sym f) (subst (λ k. Fault s (chars_from text start) k (chars_from text place)) (sym g) (stuck-found s text start at h rest a x place e b.1));
}

pub bad-fault : (s : Setting) (text : List ℕ) (start at : ℕ) (e : BadToken) → BadFault (next_word (chars_from text at)) text at e → IsStuck s text start at → IsFirstFault s text start (record { at = e.at; kind = e.kind })
bad-fault s text start at e b h = record { place = b.place; fault = stuck-faulty s text start at h (chars_from text e.at) e.kind b.fault }

pub end-fault : (s : Setting) (text : List ℕ) (start at : ℕ) → is_over (chars_from text at) ≡ true → IsStuck s text start at → IsFirstFault s text start (record { at = length text; kind = UnexpectedEnd })
end-fault s text start at e h = record { place = IsCharBoundary-from_drop text (length text) (omega arith) (subst IsUtf8 (sym (drop-length text)) IsUtf8-nil); fault = stuck-over s text start at h e }
