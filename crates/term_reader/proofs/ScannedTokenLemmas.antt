-- Tokens at the front of a text.
use Rattle.std.proofs.Common.{◌≡◌, ◌∙◌, ℕ, suc, Bool, false, List, ◌∷◌, ◌++◌, length, refl, ap}
use Rattle.au_model.specs.Syntax.Tokens.{Lexeme, Token, token, scanned, ScannedTo, is_end, after_scanned, first_tokens, front, tokens_of}
use Rattle.term_reader.specs.Lookahead.{Scans, none, onto}
use Rattle.term_reader.proofs.FirstTokenLemmas.{front-more, tokens-more}

pub scans-tokens : {cs rest : List ℕ} {ts : List Token} → Scans cs ts rest → tokens_of cs ≡ ts ++ tokens_of rest
scans-tokens none = refl
scans-tokens (onto {cs = cs} {mid = mid} {a = a} {x = x} e n h) = tokens-more cs mid a x e n ∙ ap (λ ts. token a x ∷ ts) (scans-tokens h)

pub scans-rest : {cs rest : List ℕ} {ts : List Token} → Scans cs ts rest → (front cs).rest ≡ (front rest).rest
scans-rest none = refl
scans-rest (onto {cs = cs} {mid = mid} {a = a} {x = x} e n h) = ap (λ f. f.rest) (front-more cs mid a x e n) ∙ scans-rest h

pub scans-then : {cs mid rest : List ℕ} {ts us : List Token} → Scans cs ts mid → Scans mid us rest → Scans cs (ts ++ us) rest
scans-then none k = k
scans-then (onto e n h) k = onto e n (scans-then h k)

first-more : (n : ℕ) (cs mid : List ℕ) (a : Bool) (x : Lexeme) → scanned cs ≡ ScannedTo (token a x) mid → is_end x ≡ false → (first_tokens (suc n) cs).rest ≡ (first_tokens n mid).rest
first-more n cs mid a x e h = ap (λ z. (after_scanned (first_tokens n) cs z).rest) e ∙ rw h refl

pub scans-first : {cs rest : List ℕ} {ts : List Token} → Scans cs ts rest → (first_tokens (length ts) cs).rest ≡ rest
scans-first none = refl
scans-first (onto {cs = cs} {mid = mid} {a = a} {x = x} {ts = ts} e n h) = first-more (length ts) cs mid a x e n ∙ scans-first h
