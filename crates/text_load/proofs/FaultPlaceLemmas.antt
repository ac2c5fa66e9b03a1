-- The first fault of a text is at a place of it.
use Rattle.std.proofs.Common.{◌≡◌, ◌∙◌, ℕ, zero, suc, ◌≤◌, ◌<◌, Bool, true, false, List, length, length-append, Option, Some, None, refl, sym, ap, subst, arith, append-nil, if◌then◌else◌}
use Rattle.au_model.specs.Syntax.Layout.{GapThen, begins_layout}
use Rattle.au_model.specs.Syntax.Primaries.{Setting}
use Rattle.au_model.specs.Syntax.TextFaults.{Fault, unexpected, wide, too_many, faulty, ended, token_start, line_after, column_after}
use Rattle.au_model.specs.Syntax.Tokens.{Lexeme, End, Token, token, lexeme_of, Scanned, ScannedTo, ScannedNone, scanned_lexeme, scanned_word, scanned, Front, front_with, no_front, is_end, after_token, after_scanned, first_tokens, front, tokens_of}
use Rattle.au_model.specs.Syntax.Words.{Lexed, FoundWord, FoundFault, next_word}
use Rattle.au_model.specs.declared.types.FaultKind.{FaultKind}
use Rattle.term_reader.proofs.FirstTokenLemmas.{front-end, front-more, tokens-none}
use Rattle.term_reader.proofs.TokenSequenceLemmas.{scanned-shorter}
use Rattle.text_load.specs.LoadedTexts.{Loading, FirstFault, unread, refused, further, IsRefused, first_loading}
use Rattle.text_load.proofs.RestLemmas.{HasRest, rest-all, rest-then, WordHasRest, GapHasRest, layout-rest, word-rest}

abbrev ScannedHasRest : List ℕ → Scanned → Type 0
ScannedHasRest all (ScannedTo t rest) = HasRest all rest
ScannedHasRest all ScannedNone = Unit {0}

module _ (all : List ℕ) where
  lexeme-rest : (a : Bool) (rest : List ℕ) (o : Option Lexeme) → HasRest all rest → ScannedHasRest all (scanned_lexeme a rest o)
  lexeme-rest a rest (Some x) h = h
  lexeme-rest a rest None h = tt

  scanned_word-rest : (a : Bool) (lx : Lexed) → WordHasRest all lx → ScannedHasRest all (scanned_word a lx)
  scanned_word-rest a (FoundWord w rest) h = lexeme-rest a rest (lexeme_of w) h
  scanned_word-rest a (FoundFault kind from) h = tt

  token-rest : (more : List ℕ → Front) (t : Token) (rest : List ℕ) → HasRest all rest → HasRest all (more rest).rest → HasRest all (after_token more t rest).rest
  token-rest more (token a x) rest h k = go (is_end x) where
    go : (b : Bool) → HasRest all (if b then front_with (token a x) (no_front rest) else front_with (token a x) (more rest)).rest
    go true = h
    go false = k

  tokens-rest : (n : ℕ) (cs : List ℕ) → HasRest all cs → HasRest all (first_tokens n cs).rest
  tokens-rest zero cs h = h
  tokens-rest (suc n) cs h = go (scanned cs) (scanned_word-rest (begins_layout cs) (next_word cs) (word-rest all cs h)) (tokens-rest n) where
    go : (z : Scanned) → ScannedHasRest all z → ((ds : List ℕ) → HasRest all ds → HasRest all (first_tokens n ds).rest) → HasRest all (after_scanned (first_tokens n) cs z).rest
    go (ScannedTo t rest) k more = token-rest (first_tokens n) t rest k (more rest k)
    go ScannedNone k more = h

pub front-rest : (cs : List ℕ) → HasRest cs (front cs).rest
unfolding front
front-rest cs = tokens-rest cs (length cs) cs (rest-all cs)

length-rest : (cs rest : List ℕ) → HasRest cs rest → length rest ≤ length cs
length-rest cs rest h = let n = ap length h.splits ∙ length-append h.before rest in omega arith

pub rest-shorter : (cs : List ℕ) → 0 < length (tokens_of cs) → length (front cs).rest < length cs
rest-shorter cs lt = go (scanned cs) refl where
  by-token : (a : Bool) (x : Lexeme) (mid : List ℕ) → scanned cs ≡ ScannedTo (token a x) mid → length (front cs).rest < length cs
  by-token a End mid e = let f = ap (λ g. length g.rest) (front-end cs mid a e) in let s = scanned-shorter cs mid (token a End) e in omega arith
  by-token a x mid e =
      let f = ap (λ g. length g.rest) (front-more cs mid a x e refl) in
      let s = scanned-shorter cs mid (token a x) e in
      let l = length-rest mid (front mid).rest (front-rest mid) in
      omega arith

  go : (z : Scanned) → scanned cs ≡ z → length (front cs).rest < length cs
  go (ScannedTo (token a x) mid) e = by-token a x mid e
  go ScannedNone e = let z = ap length (tokens-none cs e) in absurd (omega arith)

start-rest : (n : ℕ) (cs from : List ℕ) → token_start n cs ≡ GapThen from → HasRest cs from
start-rest n cs from e = subst (GapHasRest cs) e (layout-rest cs (first_tokens n cs).rest (tokens-rest cs n cs (rest-all cs)))

fault-rest : (s : Setting) (cs from : List ℕ) (kind : FaultKind) → Fault s cs kind from → HasRest cs from
fault-rest s cs from kind (unexpected {n = n} f a w e) = start-rest n cs from e
fault-rest s cs from kind (wide {n = n} f a e) = start-rest n cs from e
fault-rest s cs from kind (too_many {m = m} f o e) = start-rest m cs from e
fault-rest s cs from kind (faulty b e) = subst (WordHasRest cs) e (word-rest cs (front cs).rest (front-rest cs))
fault-rest s cs from kind (ended b e) = record { before = cs; splits = sym (append-nil cs) }

pub first_fault-rest : (l : Loading) (cs from : List ℕ) (kind : FaultKind) → FirstFault l cs kind from → HasRest cs from
first_fault-rest l cs from kind (unread more none f) = fault-rest l.setting cs from kind f
first_fault-rest l cs from kind (refused h bad e) = start-rest zero cs from e
first_fault-rest l cs from kind (further h s f) = rest-then (subst (HasRest cs) h.left (front-rest cs)) (first_fault-rest _ _ from kind f)

pub refused-at : (text from : List ℕ) (kind : FaultKind) → FirstFault first_loading text kind from → (line : ℕ) × (column : ℕ) × IsRefused text line column kind
refused-at text from kind f =
    let l = first_fault-rest first_loading text from kind f in
    (line_after l.before, column_after l.before, record { before = l.before; from = from; splits = l.splits; fault = f; line_is = refl; column_is = refl })
