-- Where the tokens of a text stop, and where each starts.
use Rattle.std.proofs.Common.{◌≡◌, ◌∙◌, ℕ, zero, suc, ◌<◌, Bool, false, List, [], ◌∷◌, ◌++◌, length, refl, sym, ap, arith}
use Rattle.au_model.specs.Syntax.Layout.{Gap, GapThen, GapNotClosed, after_layout, begins_layout}
use Rattle.au_model.specs.Syntax.Words.{word_after}
use Rattle.au_model.specs.Syntax.Tokens.{Lexeme, End, Token, token, Scanned, ScannedTo, ScannedNone, scanned, scanned_word, is_end, first_tokens, front, tokens_of}
use Rattle.au_model.specs.Syntax.TextFaults.{token_start}
use Rattle.term_reader.specs.Lookahead.{Scans, none, onto}
use Rattle.term_reader.proofs.TokenSequenceLemmas.{scanned-shorter}
use Rattle.term_reader.proofs.FirstTokenLemmas.{front-scanned, front-more, tokens-none, tokens-more, tokens-end}
use Rattle.term_reader.proofs.ScannedTokenLemmas.{scans-first}
use Rattle.text_load.proofs.FirstEndLemmas.{from_end, end-later}

-- the tokens stop at an end, the only one, or where no token is
pub data Stops (cs : List ℕ) : Type 0 where
  at_end : (a : Bool) → ((vs : List Token) → from_end (tokens_of cs ++ vs) ≡ token a End ∷ vs) → Stops cs
  at_none : scanned (front cs).rest ≡ ScannedNone → Stops cs

stops-later : (cs rest : List ℕ) (a : Bool) (x : Lexeme) → scanned cs ≡ ScannedTo (token a x) rest → is_end x ≡ false → Stops rest → Stops cs
stops-later cs rest a x e n (at_end b f) = at_end b (λ vs. ap (λ ts. from_end (ts ++ vs)) (tokens-more cs rest a x e n) ∙ (end-later a x (tokens_of rest ++ vs) n ∙ f vs))
stops-later cs rest a x e n (at_none f) = at_none (ap (λ g. scanned g.rest) (front-more cs rest a x e n) ∙ f)

stops-token : (cs rest : List ℕ) (a : Bool) (x : Lexeme) → scanned cs ≡ ScannedTo (token a x) rest → Stops rest → Stops cs
stops-token cs rest a End e more = at_end a (λ vs. ap (λ ts. from_end (ts ++ vs)) (tokens-end cs rest a e))
stops-token cs rest a x e more = stops-later cs rest a x e refl more

stops-within : (n : ℕ) (cs : List ℕ) → length cs < n → Stops cs
stops-within zero cs lt = absurd (omega arith)
stops-within (suc n) cs lt = go (scanned cs) refl (stops-within n) where
  go : (z : Scanned) → scanned cs ≡ z → ((ds : List ℕ) → length ds < n → Stops ds) → Stops cs
  go (ScannedTo (token a x) rest) e more = let s = scanned-shorter cs rest (token a x) e in stops-token cs rest a x e (more rest (omega arith))
  go ScannedNone e more = at_none (ap (λ g. scanned g.rest) (front-scanned cs ScannedNone e) ∙ e)

pub stops : (cs : List ℕ) → Stops cs
stops cs = stops-within (suc (length cs)) cs (omega arith)

-- ---- the place of a token

-- the token with this number, and those before it
record TokenAt (cs : List ℕ) (n : ℕ) : Type 0 where
  pub before : List Token
  pub from : List ℕ
  pub scans : Scans cs before from
  pub count : length before ≡ n
  pub found : Token
  pub rest : List ℕ
  pub is : scanned from ≡ ScannedTo found rest

no-tokens : (n : ℕ) (cs : List ℕ) {A : Type 0} → scanned cs ≡ ScannedNone → n < length (tokens_of cs) → A
no-tokens n cs e lt = let z = ap length (tokens-none cs e) in absurd (omega arith)

token-at : (n : ℕ) (cs : List ℕ) → n < length (tokens_of cs) → TokenAt cs n
token-at zero cs lt = go (scanned cs) refl where
  go : (z : Scanned) → scanned cs ≡ z → TokenAt cs zero
  go (ScannedTo t rest) e = record { before = []; from = cs; scans = none; count = refl; found = t; rest = rest; is = e }
  go ScannedNone e = no-tokens zero cs e lt
token-at (suc n) cs lt = go (scanned cs) refl (token-at n) where
  later : (a : Bool) (x : Lexeme) (mid : List ℕ) → scanned cs ≡ ScannedTo (token a x) mid → is_end x ≡ false → ((ds : List ℕ) → n < length (tokens_of ds) → TokenAt ds n) → TokenAt cs (suc n)
  later a x mid e no_end more =
      let all = ap length (tokens-more cs mid a x e no_end) in
      let r = more mid (omega arith) in
      record { before = token a x ∷ r.before; from = r.from; scans = onto e no_end r.scans; count = ap suc r.count; found = r.found; rest = r.rest; is = r.is }

  by-token : (a : Bool) (x : Lexeme) (mid : List ℕ) → scanned cs ≡ ScannedTo (token a x) mid → ((ds : List ℕ) → n < length (tokens_of ds) → TokenAt ds n) → TokenAt cs (suc n)
  by-token a End mid e more = let all = ap length (tokens-end cs mid a e) in absurd (omega arith)
  by-token a x mid e more = later a x mid e refl more

  go : (z : Scanned) → scanned cs ≡ z → ((ds : List ℕ) → n < length (tokens_of ds) → TokenAt ds n) → TokenAt cs (suc n)
  go (ScannedTo (token a x) mid) e more = by-token a x mid e more
  go ScannedNone e more = no-tokens (suc n) cs e lt

-- no comment that is not closed is before a token
layout-over : (cs rest : List ℕ) (t : Token) → scanned cs ≡ ScannedTo t rest → (from : List ℕ) × (after_layout cs ≡ GapThen from)
layout-over cs rest t e = go (after_layout cs) refl where
  go : (g : Gap) → after_layout cs ≡ g → (from : List ℕ) × (after_layout cs ≡ GapThen from)
  go (GapThen from) h = (from, h)
  go (GapNotClosed from) h =
      let k : ScannedNone ≡ ScannedTo t rest = ap (λ g. scanned_word (begins_layout cs) (word_after g)) (sym h) ∙ e in
      let z : ⊥ = cc in absurd z

pub token-starts : (n : ℕ) (cs : List ℕ) → n < length (tokens_of cs) → (from : List ℕ) × (token_start n cs ≡ GapThen from)
token-starts n cs lt =
    let r = token-at n cs lt in
    let place : (first_tokens n cs).rest ≡ r.from = ap (λ m. (first_tokens m cs).rest) (sym r.count) ∙ scans-first r.scans in
    let l = layout-over r.from r.rest r.found r.is in
    (l.0, ap after_layout place ∙ l.1)
