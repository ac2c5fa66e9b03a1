-- Each token takes a character, so the tokens of a text are its first token and those of what is left after it.
use Rattle.std.proofs.Common.{◌≡◌, ◌∙◌, ℕ, zero, suc, ◌≤◌, ◌<◌, ◌^◌, nat_le, Bool, true, false, ◌&&◌, ◌==◌, List, [], ◌∷◌, length, drop, Option, Some, None, refl, sym, ap, arith, length-drop, if◌then◌else◌}
use Rattle.std.specs.Str.Parse.{digits_value}
use Rattle.au_model.specs.Syntax.Characters.{is_small, starts_variable, is_digit_of, is_solo, is_punctuation, is_symbol, is_alphanumeric, first_is, run, after_run}
use Rattle.au_model.specs.Syntax.Layout.{Gap, GapThen, GapNotClosed, after_layout, begins_layout}
use Rattle.au_model.specs.Syntax.Quoted.{Part, StandsFor, StandsForNothing, ClosingQuote, NoEscape, CutOff, escape, part, Quoted, QuotedThen, WrongEscape, NeverClosed, with_characters, after_part, quoted_parts, quoted}
use Rattle.au_model.specs.Syntax.Numerals.{Numeral, NumeralThen, FloatingPoint, TooWide, WrongCharacter, numeral, decimal_numeral, digits_numeral, begins_fraction, named_base, based_numeral, character_numeral, character_escape, zero_numeral, or_numeral}
use Rattle.au_model.specs.Syntax.Words.{Word, NameWord, QuotedWord, VariableWord, TextWord, Lexed, FoundWord, FoundFault, run_word, numeral_word, quoted_word, ends_term, word_at_front, word_after}
use Rattle.au_model.specs.Syntax.Tokens.{Lexeme, Token, token, lexeme_of, Scanned, ScannedTo, ScannedNone, scanned_lexeme, scanned_word, scanned, Front, front_with, no_front, is_end, after_token, after_scanned, first_tokens, front}
use Rattle.token_scan.proofs.RunLemmas.{length-after_run}
use Rattle.token_scan.proofs.LayoutLemmas.{layout-within}
use Rattle.token_scan.proofs.QuotedItemLemmas.{EndsWithin, escape-within, part-within}
use Rattle.token_scan.proofs.WordLemmas.{if_cases as either}

-- what is left is shorter than this
abbrev LeavesLess : ℕ → Lexed → Type 0
LeavesLess n (FoundWord w rest) = length rest < n
LeavesLess n (FoundFault kind from) = Unit {0}

abbrev NumeralLess : ℕ → Numeral → Type 0
NumeralLess n (NumeralThen k rest) = length rest < n
NumeralLess n _ = Unit {0}

abbrev QuotedLess : ℕ → Quoted → Type 0
QuotedLess n (QuotedThen cs rest) = length rest < n
QuotedLess n _ = Unit {0}

width-less : (b : Bool) (n k : ℕ) (rest : List ℕ) → length rest < n → NumeralLess n (if b then NumeralThen k rest else TooWide)
width-less true n k rest lt = lt
width-less false n k rest lt = tt

digits-less : (base n : ℕ) (cs : List ℕ) → length cs < n → NumeralLess n (digits_numeral base cs)
digits-less base n cs lt = width-less (nat_le (digits_value base (run (is_digit_of base) cs)) (2 ^ 63)) n _ (after_run (is_digit_of base) cs) (omega (arith, length-after_run (is_digit_of base) cs))

decimal-less : (n c : ℕ) (cs : List ℕ) → is_digit_of 10 c ≡ true → length cs < n → NumeralLess n (decimal_numeral (c ∷ cs))
decimal-less n c cs d lt = go (begins_fraction (after_run (is_digit_of 10) (c ∷ cs))) where
  short : length (after_run (is_digit_of 10) (c ∷ cs)) < n
  short = rw d (omega (arith, length-after_run (is_digit_of 10) cs))

  go : (b : Bool) → NumeralLess n (if b then FloatingPoint else digits_numeral 10 (c ∷ cs))
  go true = tt
  go false = width-less (nat_le (digits_value 10 (run (is_digit_of 10) (c ∷ cs))) (2 ^ 63)) n _ (after_run (is_digit_of 10) (c ∷ cs)) short

abbrev MaybeLess : ℕ → Option Numeral → Type 0
MaybeLess n (Some k) = NumeralLess n k
MaybeLess n None = Unit {0}

escape-less : (n : ℕ) (from : List ℕ) (p : Part) → EndsWithin n p → NumeralLess n (character_escape from p)
escape-less n from (StandsFor d rest) h = h
escape-less n from (StandsForNothing rest) h = tt
escape-less n from (ClosingQuote rest) h = tt
escape-less n from NoEscape h = tt
escape-less n from CutOff h = tt

character-less : (n : ℕ) (cs : List ℕ) → length cs ≤ n → MaybeLess n (character_numeral cs)
character-less n [] le = tt
character-less n (c ∷ cs) le = quote (c == 39) where
  doubled : (b : Bool) → MaybeLess n (if b then Some (NumeralThen 39 (drop 1 cs)) else None)
  doubled true = omega (arith, length-drop 1 cs)
  doubled false = tt

  sign : (b : Bool) → MaybeLess n (if b then Some (character_escape (c ∷ cs) (escape cs)) else Some (NumeralThen c cs))
  sign true = escape-less n (c ∷ cs) (escape cs) (escape-within n cs (omega arith))
  sign false = omega arith

  quote : (b : Bool) → MaybeLess n (if b then (if first_is 39 cs then Some (NumeralThen 39 (drop 1 cs)) else None) else (if c == 92 then Some (character_escape (c ∷ cs) (escape cs)) else Some (NumeralThen c cs)))
  quote true = doubled (first_is 39 cs)
  quote false = sign (c == 92)

based-less : (n : ℕ) (o : Option ℕ) (cs : List ℕ) → length cs < n → MaybeLess n (based_numeral o cs)
based-less n (Some base) cs lt = digits-less base n (drop 1 cs) (omega (arith, length-drop 1 cs))
based-less n None cs lt = go (first_is 39 cs) where
  go : (b : Bool) → MaybeLess n (if b then character_numeral (drop 1 cs) else None)
  go true = character-less n (drop 1 cs) (omega (arith, length-drop 1 cs))
  go false = tt

or-less : (n : ℕ) (o : Option Numeral) (k : Numeral) → MaybeLess n o → NumeralLess n k → NumeralLess n (or_numeral o k)
or-less n (Some m) k h l = h
or-less n None k h l = l

numeral-less : (n c : ℕ) (cs : List ℕ) → is_digit_of 10 c ≡ true → length cs < n → NumeralLess n (numeral (c ∷ cs))
unfolding numeral
numeral-less n c cs d lt = go (c == 48) where
  go : (b : Bool) → NumeralLess n (if b then or_numeral (zero_numeral cs) (decimal_numeral (c ∷ cs)) else decimal_numeral (c ∷ cs))
  go true = or-less n (zero_numeral cs) (decimal_numeral (c ∷ cs)) (based-less n (named_base cs) cs lt) (decimal-less n c cs d lt)
  go false = decimal-less n c cs d lt

characters-less : (n : ℕ) (ds : List ℕ) (q : Quoted) → QuotedLess n q → QuotedLess n (with_characters ds q)
characters-less n ds (QuotedThen cs rest) h = h
characters-less n ds (WrongEscape from) h = tt
characters-less n ds NeverClosed h = tt

parts-less : (m q n : ℕ) (cs : List ℕ) → length cs ≤ n → QuotedLess n (quoted_parts m q cs)
parts-less zero q n cs le = tt
parts-less (suc m) q n cs le = go (part q cs) (part-within q n cs le) (parts-less m q n) where
  go : (p : Part) → EndsWithin n p → ((ds : List ℕ) → length ds ≤ n → QuotedLess n (quoted_parts m q ds)) → QuotedLess n (after_part (quoted_parts m q) cs p)
  go (StandsFor d rest) h more = characters-less n (d ∷ []) (quoted_parts m q rest) (more rest (omega arith))
  go (StandsForNothing rest) h more = more rest (omega arith)
  go (ClosingQuote rest) h more = h
  go NoEscape h more = tt
  go CutOff h more = tt

quoted-less : (q n : ℕ) (cs : List ℕ) → length cs ≤ n → QuotedLess n (quoted q cs)
unfolding quoted
quoted-less q n cs le = parts-less (length cs) q n cs le

numeral_word-less : (n : ℕ) (from : List ℕ) (k : Numeral) → NumeralLess n k → LeavesLess n (numeral_word from k)
numeral_word-less n from (NumeralThen m rest) h = h
numeral_word-less n from FloatingPoint h = tt
numeral_word-less n from TooWide h = tt
numeral_word-less n from (WrongCharacter place) h = tt

quoted_word-less : (n : ℕ) (word : List ℕ → Word) (from : List ℕ) (q : Quoted) → QuotedLess n q → LeavesLess n (quoted_word word from q)
quoted_word-less n word from (QuotedThen cs rest) h = h
quoted_word-less n word from (WrongEscape place) h = tt
quoted_word-less n word from NeverClosed h = tt

-- a word takes a character
word-less : (c : ℕ) (cs : List ℕ) → LeavesLess (suc (length cs)) (word_at_front (c ∷ cs))
word-less c cs =
    let n = suc (length cs) in
    let P : Lexed → Type 0 = LeavesLess n in
    let name : P (run_word NameWord is_alphanumeric c cs) = omega (arith, length-after_run is_alphanumeric cs) in
    let variable : P (run_word VariableWord is_alphanumeric c cs) = omega (arith, length-after_run is_alphanumeric cs) in
    let symbol : P (run_word NameWord is_symbol c cs) = omega (arith, length-after_run is_symbol cs) in
    let here : length cs < n = omega arith in
    either P (is_small c) _ _ (λ _. name) (λ _.
    either P (starts_variable c) _ _ (λ _. variable) (λ _.
    either P (is_digit_of 10 c) _ _ (λ d. numeral_word-less n (c ∷ cs) (numeral (c ∷ cs)) (numeral-less n c cs d here)) (λ _.
    either P (c == 39) _ _ (λ _. quoted_word-less n QuotedWord (c ∷ cs) (quoted 39 cs) (quoted-less 39 n cs (omega arith))) (λ _.
    either P (c == 34) _ _ (λ _. quoted_word-less n TextWord (c ∷ cs) (quoted 34 cs) (quoted-less 34 n cs (omega arith))) (λ _.
    either P (is_solo c) _ _ (λ _. here) (λ _.
    either P (is_punctuation c) _ _ (λ _. here) (λ _.
    either P ((c == 46) && ends_term cs) _ _ (λ _. here) (λ _.
    either P (is_symbol c) _ _ (λ _. symbol) (λ _. tt)))))))))

lexeme-shorter : (n : ℕ) (a : Bool) (w : Word) (rest ds : List ℕ) (t : Token) → length rest < n → scanned_lexeme a rest (lexeme_of w) ≡ ScannedTo t ds → length ds < n
lexeme-shorter n a w rest ds t lt e = go (lexeme_of w) e where
  go : (o : Option Lexeme) → scanned_lexeme a rest o ≡ ScannedTo t ds → length ds < n
  go (Some x) h = let same : rest ≡ ds = cc in omega (arith, ap length same)
  go None h = let f : ⊥ = cc in absurd f

word-shorter : (n : ℕ) (a : Bool) (lx : Lexed) (ds : List ℕ) (t : Token) → LeavesLess n lx → scanned_word a lx ≡ ScannedTo t ds → length ds < n
word-shorter n a (FoundWord w rest) ds t lt e = lexeme-shorter n a w rest ds t lt e
word-shorter n a (FoundFault kind from) ds t lt e = let f : ⊥ = cc in absurd f

front-shorter : (a : Bool) (cs rest : List ℕ) (t : Token) → scanned_word a (word_at_front cs) ≡ ScannedTo t rest → length rest < length cs
front-shorter a [] rest t e = let f : ⊥ = cc in absurd f
front-shorter a (c ∷ cs) rest t e = word-shorter (suc (length cs)) a (word_at_front (c ∷ cs)) rest t (word-less c cs) e

-- a token takes a character
pub scanned-shorter : (cs rest : List ℕ) (t : Token) → scanned cs ≡ ScannedTo t rest → length rest < length cs
scanned-shorter cs rest t e = go (after_layout cs) refl where
  go : (g : Gap) → after_layout cs ≡ g → length rest < length cs
  go (GapThen ds) h =
      let k : scanned_word (begins_layout cs) (word_at_front ds) ≡ ScannedTo t rest = ap (λ g. scanned_word (begins_layout cs) (word_after g)) (sym h) ∙ e in
      let l = front-shorter (begins_layout cs) ds rest t k in
      let m = layout-within cs ds h in omega arith
  go (GapNotClosed from) h =
      let k : ScannedNone ≡ ScannedTo t rest = ap (λ g. scanned_word (begins_layout cs) (word_after g)) (sym h) ∙ e in
      let f : ⊥ = cc in absurd f

-- more tokens than characters make no difference
with_token-same : (f g : List ℕ → Front) (t : Token) (rest : List ℕ) → f rest ≡ g rest → after_token f t rest ≡ after_token g t rest
with_token-same f g (token a x) rest e = go (is_end x) where
  go : (b : Bool) → (if b then front_with (token a x) (no_front rest) else front_with (token a x) (f rest)) ≡ (if b then front_with (token a x) (no_front rest) else front_with (token a x) (g rest))
  go true = refl
  go false = ap (front_with (token a x)) e

nothing_scanned : scanned [] ≡ ScannedNone
nothing_scanned = go (scanned []) refl where
  go : (s : Scanned) → scanned [] ≡ s → scanned [] ≡ ScannedNone
  go ScannedNone e = e
  go (ScannedTo t rest) e = let l = scanned-shorter [] rest t e in absurd (omega arith)

enough : (m n : ℕ) (cs : List ℕ) → length cs ≤ m → length cs ≤ n → first_tokens m cs ≡ first_tokens n cs
enough zero zero cs a b = refl
enough zero (suc n) [] a b = sym (ap (after_scanned (first_tokens n) []) nothing_scanned)
enough zero (suc n) (c ∷ cs) a b = absurd (omega arith)
enough (suc m) zero [] a b = ap (after_scanned (first_tokens m) []) nothing_scanned
enough (suc m) zero (c ∷ cs) a b = absurd (omega arith)
enough (suc m) (suc n) cs a b = go (scanned cs) refl (enough m n) where
  go : (s : Scanned) → scanned cs ≡ s → ((ds : List ℕ) → length ds ≤ m → length ds ≤ n → first_tokens m ds ≡ first_tokens n ds)
      → after_scanned (first_tokens m) cs s ≡ after_scanned (first_tokens n) cs s
  go (ScannedTo t rest) e more = let l = scanned-shorter cs rest t e in with_token-same (first_tokens m) (first_tokens n) t rest (more rest (omega arith) (omega arith))
  go ScannedNone e more = refl

one_token : (n : ℕ) (cs : List ℕ) → n ≡ length cs → first_tokens n cs ≡ after_scanned front cs (scanned cs)
unfolding front
one_token zero [] h = sym (ap (after_scanned front []) nothing_scanned)
one_token zero (c ∷ cs) h = absurd (omega arith)
one_token (suc n) cs h = go (scanned cs) refl where
  go : (s : Scanned) → scanned cs ≡ s → after_scanned (first_tokens n) cs s ≡ after_scanned front cs s
  go (ScannedTo t rest) e =
      let l = scanned-shorter cs rest t e in with_token-same (first_tokens n) front t rest (enough n (length rest) rest (omega arith) (omega arith))
  go ScannedNone e = refl

-- the first token, and then the rest
pub front-token : (cs : List ℕ) → front cs ≡ after_scanned front cs (scanned cs)
unfolding front
front-token cs = one_token (length cs) cs refl
