-- The words of a text.
use Rattle.std.proofs.Common.{◌≡◌, ◌∙◌, ℕ, Bool, true, false, ◌&&◌, ◌==◌, cond, List, [], ◌∷◌, ◌++◌, Option, Some, None, IsSome, refl, sym, ap, subst}
use Rattle.std.proofs.lemmas.Bool.{eqb-true}
use Rattle.au_model.specs.Syntax.Characters.{is_symbol, is_solo, is_punctuation, is_small, starts_variable, is_alphanumeric, is_digit_of, run, after_run, chars_from}
use Rattle.au_model.specs.Syntax.Quoted.{Quoted, QuotedThen, WrongEscape, NeverClosed, quoted}
use Rattle.au_model.specs.Syntax.Numerals.{Numeral, NumeralThen, FloatingPoint, TooWide, WrongCharacter, numeral}
use Rattle.au_model.specs.Syntax.Words.{Word, NameWord, QuotedWord, VariableWord, TextWord, MarkWord, StopWord, Lexed, FoundWord, FoundFault, run_word, numeral_word, quoted_word, ends_term, word_at_front, word_after, next_word, word_characters, word_number, found_word}
use Rattle.au_model.specs.declared.types.FaultKind.TheVariants.{BadCharacter}
use Rattle.token_scan.proofs.RunLemmas.{run-and_after}
use Rattle.token_scan.specs.NextToken.{kind_of, kind_found, is_plain_kind, is_quoted_kind, is_integer_kind, word_of, IsNextToken}
use Rattle.token_scan.specs.ScannedParts.{quoted_rest, quoted_characters, numeral_of}
use Rattle.token_scan.specs.declared.numbers.Number.{Number}
use Rattle.token_scan.specs.declared.numbers.Number.TheVariants.{Fits, Float, Wide, NoCharacter}
use Rattle.token_scan.specs.declared.token.Token.{Token}
use Rattle.token_scan.specs.declared.token.TokenKind.{TokenKind}
use Rattle.token_scan.specs.declared.token.TokenKind.TheVariants.{Integer}

pub if_cases : (P : Lexed → Type 0) (b : Bool) (x y : Lexed) → (b ≡ true → P x) → (b ≡ false → P y) → P (cond b x y)
if_cases P true x y h k = h refl
if_cases P false x y h k = k refl

-- what holds of each word that may be at the front holds of the one that does
pub word_cases : (P : Lexed → Type 0) (c : ℕ) (cs : List ℕ)
    → P (run_word NameWord is_alphanumeric c cs) → P (run_word VariableWord is_alphanumeric c cs) → P (numeral_word (c ∷ cs) (numeral (c ∷ cs)))
    → (c ≡ 39 → P (quoted_word QuotedWord (c ∷ cs) (quoted 39 cs))) → (c ≡ 34 → P (quoted_word TextWord (c ∷ cs) (quoted 34 cs)))
    → P (FoundWord (NameWord (c ∷ [])) cs) → P (FoundWord (MarkWord c) cs) → P (FoundWord StopWord cs)
    → P (run_word NameWord is_symbol c cs) → P (FoundFault BadCharacter (c ∷ cs)) → P (word_at_front (c ∷ cs))
word_cases P c cs name variable number single double solo mark stop symbol fault =
    if_cases P (is_small c) _ _ (λ _. name) (λ _.
    if_cases P (starts_variable c) _ _ (λ _. variable) (λ _.
    if_cases P (is_digit_of 10 c) _ _ (λ _. number) (λ _.
    if_cases P (c == 39) _ _ (λ e. single (eqb-true c 39 e)) (λ _.
    if_cases P (c == 34) _ _ (λ e. double (eqb-true c 34 e)) (λ _.
    if_cases P (is_solo c) _ _ (λ _. solo) (λ _.
    if_cases P (is_punctuation c) _ _ (λ _. mark) (λ _.
    if_cases P ((c == 46) && ends_term cs) _ _ (λ _. stop) (λ _.
    if_cases P (is_symbol c) _ _ (λ _. symbol) (λ _. fault)))))))))

abbrev pub found : TokenKind → List ℕ → Option (TokenKind × List ℕ)
found k rest = Some (k, rest)

-- a word of this kind is found
abbrev pub Finds : Lexed → TokenKind → List ℕ → Type 0
Finds lx k rest = kind_found lx ≡ found k rest

kind_in : Option (TokenKind × List ℕ) → TokenKind → TokenKind
kind_in (Some p) k = p.0
kind_in None k = k

rest_in : Option (TokenKind × List ℕ) → List ℕ → List ℕ
rest_in (Some p) r = p.1
rest_in None r = r

same_kind : (j k : TokenKind) (r rest : List ℕ) → found j r ≡ found k rest → j ≡ k
unfolding kind_in
same_kind j k r rest e = ap (λ o. kind_in o k) e

other_kind : {A : Type 0} (p : TokenKind → Bool) (j k : TokenKind) (r rest : List ℕ) → found j r ≡ found k rest → p j ≡ false → p k ≡ true → A
other_kind p j k r rest e n h = let f : false ≡ true = sym n ∙ (ap p (same_kind j k r rest e) ∙ h) in let g : ⊥ = cc in absurd g

no_kind : {A : Type 0} (rest : List ℕ) (k : TokenKind) → None ≡ found k rest → A
no_kind rest k e = let g : ⊥ = cc in absurd g

-- a word that is found is a word with what is left after it
pub found-is : (lx : Lexed) (k : TokenKind) (rest : List ℕ) → Finds lx k rest → (lx ≡ FoundWord (found_word lx) rest) × (k ≡ kind_of (found_word lx))
unfolding rest_in
found-is (FoundWord w r) k rest e = let same : r ≡ rest = ap (λ o. rest_in o r) e in (ap (FoundWord w) same, sym (same_kind (kind_of w) k r rest e))
found-is (FoundFault f from) k rest e = no_kind rest k e

pub is-found : (lx : Lexed) (k : TokenKind) (w : Word) (rest : List ℕ) → lx ≡ FoundWord w rest → k ≡ kind_of w → Finds lx k rest
is-found lx k w rest e h = ap kind_found e ∙ ap (λ j. found j rest) (sym h)

-- the next token's word, as the text has it
pub next_word-found : (text : List ℕ) (at : ℕ) (t : Token) → IsNextToken text at t → next_word (chars_from text at) ≡ FoundWord (word_of text t) (chars_from text t.end)
next_word-found text at t n = ap word_after n.layout ∙ n.token.word

-- a quoted item that was found, by what is after its quote
pub record IsQuotedItem (lx : Lexed) (q : Quoted) : Type 0 where
  pub closed : IsSome (quoted_rest q)
  pub characters : word_characters (found_word lx) ≡ quoted_characters q

single_quoted : (from rest : List ℕ) (k : TokenKind) (q : Quoted) → Finds (quoted_word QuotedWord from q) k rest → IsQuotedItem (quoted_word QuotedWord from q) q
single_quoted from rest k (QuotedThen cs r) e = record { closed = refl; characters = refl }
single_quoted from rest k (WrongEscape p) e = no_kind rest k e
single_quoted from rest k NeverClosed e = no_kind rest k e

double_quoted : (from rest : List ℕ) (k : TokenKind) (q : Quoted) → Finds (quoted_word TextWord from q) k rest → IsQuotedItem (quoted_word TextWord from q) q
double_quoted from rest k (QuotedThen cs r) e = record { closed = refl; characters = refl }
double_quoted from rest k (WrongEscape p) e = no_kind rest k e
double_quoted from rest k NeverClosed e = no_kind rest k e

numeral_kind : {A : Type 0} (p : TokenKind → Bool) (from rest : List ℕ) (k : TokenKind) (n : Numeral) → p Integer ≡ false → Finds (numeral_word from n) k rest → p k ≡ true → A
numeral_kind p from rest k (NumeralThen m r) n e h = other_kind p Integer k r rest e n h
numeral_kind p from rest k FloatingPoint n e h = no_kind rest k e
numeral_kind p from rest k TooWide n e h = no_kind rest k e
numeral_kind p from rest k (WrongCharacter place) n e h = no_kind rest k e

quoted_found : (c : ℕ) (cs rest : List ℕ) (k : TokenKind) → Finds (word_at_front (c ∷ cs)) k rest → is_quoted_kind k ≡ true → IsQuotedItem (word_at_front (c ∷ cs)) (quoted c cs)
quoted_found c cs rest k = word_cases (λ lx. Finds lx k rest → is_quoted_kind k ≡ true → IsQuotedItem lx (quoted c cs)) c cs
    (λ e. other_kind is_quoted_kind _ k _ rest e refl)
    (λ e. other_kind is_quoted_kind _ k _ rest e refl)
    (λ e. numeral_kind is_quoted_kind (c ∷ cs) rest k (numeral (c ∷ cs)) refl e)
    (λ q e h. let same : quoted 39 cs ≡ quoted c cs = ap (λ d. quoted d cs) (sym q) in subst (IsQuotedItem (quoted_word QuotedWord (c ∷ cs) (quoted 39 cs))) same (single_quoted (c ∷ cs) rest k (quoted 39 cs) e))
    (λ q e h. let same : quoted 34 cs ≡ quoted c cs = ap (λ d. quoted d cs) (sym q) in subst (IsQuotedItem (quoted_word TextWord (c ∷ cs) (quoted 34 cs))) same (double_quoted (c ∷ cs) rest k (quoted 34 cs) e))
    (λ e. other_kind is_quoted_kind _ k _ rest e refl)
    (λ e. other_kind is_quoted_kind _ k _ rest e refl)
    (λ e. other_kind is_quoted_kind _ k _ rest e refl)
    (λ e. other_kind is_quoted_kind _ k _ rest e refl)
    (λ e. no_kind rest k e)

quoted_kind : {A : Type 0} (word : List ℕ → Word) (from rest : List ℕ) (k : TokenKind) (q : Quoted) → ((cs : List ℕ) → is_integer_kind (kind_of (word cs)) ≡ false) → Finds (quoted_word word from q) k rest → is_integer_kind k ≡ true → A
quoted_kind word from rest k (QuotedThen cs r) n e h = other_kind is_integer_kind (kind_of (word cs)) k r rest e (n cs) h
quoted_kind word from rest k (WrongEscape p) n e h = no_kind rest k e
quoted_kind word from rest k NeverClosed n e h = no_kind rest k e

-- an integer that was found, by its numeral
pub integer_found : (cs rest : List ℕ) (k : TokenKind) → Finds (word_at_front cs) k rest → is_integer_kind k ≡ true → word_at_front cs ≡ numeral_word cs (numeral cs)
integer_found [] rest k = λ e. other_kind is_integer_kind _ k _ rest e refl
integer_found (c ∷ cs) rest k = word_cases (λ lx. Finds lx k rest → is_integer_kind k ≡ true → lx ≡ numeral_word (c ∷ cs) (numeral (c ∷ cs))) c cs
    (λ e. other_kind is_integer_kind _ k _ rest e refl)
    (λ e. other_kind is_integer_kind _ k _ rest e refl)
    (λ e h. refl)
    (λ q e. quoted_kind QuotedWord (c ∷ cs) rest k (quoted 39 cs) (λ ds. refl) e)
    (λ q e. quoted_kind TextWord (c ∷ cs) rest k (quoted 34 cs) (λ ds. refl) e)
    (λ e. other_kind is_integer_kind _ k _ rest e refl)
    (λ e. other_kind is_integer_kind _ k _ rest e refl)
    (λ e. other_kind is_integer_kind _ k _ rest e refl)
    (λ e. other_kind is_integer_kind _ k _ rest e refl)
    (λ e. no_kind rest k e)

-- so its numeral is a number
pub integer_fits : (text cs rest : List ℕ) (k : TokenKind) (r : Number) → Finds (word_at_front cs) k rest → is_integer_kind k ≡ true → numeral cs ≡ numeral_of text r
    → ((x y : ℕ) → r ≡ Fits x y → ⊥) → ⊥
integer_fits text cs rest k (Fits x y) e h n without = without x y refl
integer_fits text cs rest k Float e h n without = no_kind rest k (sym (ap kind_found (integer_found cs rest k e h ∙ ap (numeral_word cs) n)) ∙ e)
integer_fits text cs rest k Wide e h n without = no_kind rest k (sym (ap kind_found (integer_found cs rest k e h ∙ ap (numeral_word cs) n)) ∙ e)
integer_fits text cs rest k (NoCharacter place) e h n without = no_kind rest k (sym (ap kind_found (integer_found cs rest k e h ∙ ap (numeral_word cs) n)) ∙ e)

pub integer_is : (cs rest r : List ℕ) (k : TokenKind) (m : ℕ) → Finds (word_at_front cs) k rest → is_integer_kind k ≡ true → numeral cs ≡ NumeralThen m r
    → m ≡ word_number (found_word (word_at_front cs))
integer_is cs rest r k m e h n = sym (ap (λ lx. word_number (found_word lx)) (integer_found cs rest k e h ∙ ap (numeral_word cs) n))

pub quoted_item : (from cs rest : List ℕ) (c : ℕ) (k : TokenKind) → from ≡ c ∷ cs → Finds (word_at_front from) k rest → is_quoted_kind k ≡ true
    → IsQuotedItem (word_at_front from) (quoted c cs)
quoted_item from cs rest c k q e h =
    subst (λ ds. IsQuotedItem (word_at_front ds) (quoted c cs)) (sym q) (quoted_found c cs rest k (subst (λ ds. Finds (word_at_front ds) k rest) q e) h)

plain_quoted : (word : List ℕ → Word) (from rest : List ℕ) (k : TokenKind) (q : Quoted) → ((cs : List ℕ) → is_plain_kind (kind_of (word cs)) ≡ false) → Finds (quoted_word word from q) k rest → is_plain_kind k ≡ true
    → from ≡ word_characters (found_word (quoted_word word from q)) ++ rest
plain_quoted word from rest k (QuotedThen cs r) n e h = other_kind is_plain_kind (kind_of (word cs)) k r rest e (n cs) h
plain_quoted word from rest k (WrongEscape p) n e h = no_kind rest k e
plain_quoted word from rest k NeverClosed n e h = no_kind rest k e

run_plain : (word : List ℕ → Word) (p : ℕ → Bool) (c : ℕ) (cs rest : List ℕ) (k : TokenKind) → ((ds : List ℕ) → word_characters (word ds) ≡ ds) → Finds (run_word word p c cs) k rest
    → c ∷ cs ≡ word_characters (word (c ∷ run p cs)) ++ rest
unfolding rest_in
run_plain word p c cs rest k h e =
    let left : after_run p cs ≡ rest = ap (λ o. rest_in o rest) e in
    sym (ap (λ ds. c ∷ ds) (run-and_after p cs)) ∙ (ap (λ ds. (c ∷ run p cs) ++ ds) left ∙ ap (λ ds. ds ++ rest) (sym (h (c ∷ run p cs))))

one_plain : (j k : TokenKind) (c : ℕ) (cs rest : List ℕ) → found j cs ≡ found k rest → c ∷ cs ≡ (c ∷ []) ++ rest
unfolding rest_in
one_plain j k c cs rest e = ap (λ ds. c ∷ ds) (ap (λ o. rest_in o rest) e)

-- a name, a variable and a mark are in the text with their characters
pub plain-is : (cs rest : List ℕ) (k : TokenKind) → Finds (word_at_front cs) k rest → is_plain_kind k ≡ true → cs ≡ word_characters (found_word (word_at_front cs)) ++ rest
plain-is [] rest k = λ e. other_kind is_plain_kind _ k _ rest e refl
plain-is (c ∷ cs) rest k = word_cases (λ lx. Finds lx k rest → is_plain_kind k ≡ true → c ∷ cs ≡ word_characters (found_word lx) ++ rest) c cs
    (λ e h. run_plain NameWord is_alphanumeric c cs rest k (λ ds. refl) e)
    (λ e h. run_plain VariableWord is_alphanumeric c cs rest k (λ ds. refl) e)
    (λ e. numeral_kind is_plain_kind (c ∷ cs) rest k (numeral (c ∷ cs)) refl e)
    (λ q e. plain_quoted QuotedWord (c ∷ cs) rest k (quoted 39 cs) (λ ds. refl) e)
    (λ q e. plain_quoted TextWord (c ∷ cs) rest k (quoted 34 cs) (λ ds. refl) e)
    (λ e h. one_plain _ k c cs rest e)
    (λ e h. one_plain _ k c cs rest e)
    (λ e. other_kind is_plain_kind _ k _ rest e refl)
    (λ e h. run_plain NameWord is_symbol c cs rest k (λ ds. refl) e)
    (λ e. no_kind rest k e)
