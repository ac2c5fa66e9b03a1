-- What is left after layout or a word, or from a fault on, is the last part of the characters.
use Rattle.std.proofs.Common.{◌≡◌, ◌∙◌, ℕ, zero, suc, ◌^◌, nat_le, Bool, true, false, ◌&&◌, ◌==◌, List, [], ◌∷◌, ◌++◌, length, drop, Option, Some, None, refl, sym, ap, append_assoc, if◌then◌else◌}
use Rattle.std.specs.Str.Parse.{digits_value}
use Rattle.au_model.specs.Syntax.Characters.{is_small, starts_variable, is_digit_of, is_solo, is_punctuation, is_symbol, is_alphanumeric, is_blank, is_in_line, first_is, run, after_run}
use Rattle.au_model.specs.Syntax.Layout.{LayoutItem, ItemThen, NotClosed, NoLayout, comment_item, after_comment, layout_item, Gap, GapThen, GapNotClosed, after_layout_item, after_layout_items, after_layout}
use Rattle.au_model.specs.Syntax.Numerals.{Numeral, NumeralThen, FloatingPoint, TooWide, WrongCharacter, digits_numeral, decimal_numeral, begins_fraction, named_base, based_numeral, character_numeral, character_escape, zero_numeral, or_numeral, numeral}
use Rattle.au_model.specs.Syntax.Quoted.{Part, StandsFor, StandsForNothing, ClosingQuote, NoEscape, CutOff, named_escape, named_part, numbered_part, escape, part, Quoted, QuotedThen, WrongEscape, NeverClosed, with_characters, after_part, quoted_parts, quoted}
use Rattle.au_model.specs.Syntax.Words.{Word, QuotedWord, TextWord, Lexed, FoundWord, FoundFault, numeral_word, quoted_word, ends_term, word_at_front, word_after, next_word}
use Rattle.token_scan.proofs.RunLemmas.{run-and_after}

-- these characters, and then the others
pub record HasRest (all rest : List ℕ) : Type 0 where
  pub before : List ℕ
  pub splits : all ≡ before ++ rest

pub rest-all : (cs : List ℕ) → HasRest cs cs
rest-all cs = record { before = []; splits = refl }

pub rest-then : {all mid rest : List ℕ} → HasRest all mid → HasRest mid rest → HasRest all rest
rest-then {rest = rest} h k = record { before = h.before ++ k.before; splits = h.splits ∙ (ap (λ cs. h.before ++ cs) k.splits ∙ sym (append_assoc h.before k.before rest)) }

-- whichever of two it is
either : {A : Type 0} (P : A → Type 0) (b : Bool) (x y : A) → P x → P y → P (if b then x else y)
either P true x y h k = h
either P false x y h k = k

-- what is named as left is left of all characters
abbrev PartHasRest : List ℕ → Part → Type 0
PartHasRest all (StandsFor d rest) = HasRest all rest
PartHasRest all (StandsForNothing rest) = HasRest all rest
PartHasRest all (ClosingQuote rest) = HasRest all rest
PartHasRest all _ = Unit {0}

abbrev QuotedHasRest : List ℕ → Quoted → Type 0
QuotedHasRest all (QuotedThen cs rest) = HasRest all rest
QuotedHasRest all (WrongEscape from) = HasRest all from
QuotedHasRest all NeverClosed = Unit {0}

abbrev NumeralHasRest : List ℕ → Numeral → Type 0
NumeralHasRest all (NumeralThen n rest) = HasRest all rest
NumeralHasRest all (WrongCharacter from) = HasRest all from
NumeralHasRest all _ = Unit {0}

abbrev MaybeHasRest : List ℕ → Option Numeral → Type 0
MaybeHasRest all (Some n) = NumeralHasRest all n
MaybeHasRest all None = Unit {0}

abbrev pub WordHasRest : List ℕ → Lexed → Type 0
WordHasRest all (FoundWord w rest) = HasRest all rest
WordHasRest all (FoundFault kind from) = HasRest all from

abbrev CommentHasRest : List ℕ → Option (List ℕ) → Type 0
CommentHasRest all (Some rest) = HasRest all rest
CommentHasRest all None = Unit {0}

abbrev ItemHasRest : List ℕ → LayoutItem → Type 0
ItemHasRest all (ItemThen rest) = HasRest all rest
ItemHasRest all _ = Unit {0}

abbrev pub GapHasRest : List ℕ → Gap → Type 0
GapHasRest all (GapThen rest) = HasRest all rest
GapHasRest all (GapNotClosed from) = HasRest all from

module _ (all : List ℕ) where
  next : (c : ℕ) (cs : List ℕ) → HasRest all (c ∷ cs) → HasRest all cs
  next c cs h = rest-then h (record { before = c ∷ []; splits = refl })

  tail : (cs : List ℕ) → HasRest all cs → HasRest all (drop 1 cs)
  tail [] h = h
  tail (c ∷ cs) h = next c cs h

  after : (p : ℕ → Bool) (cs : List ℕ) → HasRest all cs → HasRest all (after_run p cs)
  after p cs h = rest-then h (record { before = run p cs; splits = sym (run-and_after p cs) })

  -- ---- layout

  comment-rest : (cs : List ℕ) → HasRest all cs → CommentHasRest all (after_comment cs)
  comment-rest [] h = tt
  comment-rest (c ∷ cs) h = either (CommentHasRest all) ((c == 42) && first_is 47 cs) _ _ (tail cs (next c cs h)) (comment-rest cs (next c cs h))

  comment-item : (o : Option (List ℕ)) → CommentHasRest all o → ItemHasRest all (comment_item o)
  comment-item (Some rest) h = h
  comment-item None h = tt

  item-rest : (cs : List ℕ) → HasRest all cs → ItemHasRest all (layout_item cs)
  item-rest [] h = tt
  item-rest (c ∷ cs) h =
      let P : LayoutItem → Type 0 = ItemHasRest all in
      let here = next c cs h in
      either P (is_blank c) _ _ here (
      either P (c == 37) _ _ (after is_in_line cs here) (
      either P ((c == 47) && first_is 42 cs) _ _ (comment-item (after_comment (drop 1 cs)) (comment-rest (drop 1 cs) (tail cs here))) tt))

  items-rest : (n : ℕ) (cs : List ℕ) → HasRest all cs → GapHasRest all (after_layout_items n cs)
  items-rest zero cs h = h
  items-rest (suc n) cs h = go (layout_item cs) (item-rest cs h) (items-rest n) where
    go : (i : LayoutItem) → ItemHasRest all i → ((ds : List ℕ) → HasRest all ds → GapHasRest all (after_layout_items n ds)) → GapHasRest all (after_layout_item (after_layout_items n) cs i)
    go (ItemThen rest) k more = more rest k
    go NotClosed k more = h
    go NoLayout k more = h

  pub layout-rest : (cs : List ℕ) → HasRest all cs → GapHasRest all (after_layout cs)
  unfolding after_layout
  layout-rest cs h = items-rest (length cs) cs h

  -- ---- quoted items

  numbered-rest : (good : Bool) (n : ℕ) (cs : List ℕ) → HasRest all cs → PartHasRest all (numbered_part good n cs)
  numbered-rest good n [] h = tt
  numbered-rest good n (c ∷ cs) h = either (PartHasRest all) (c == 10) _ _ tt (either (PartHasRest all) (good && (c == 92)) _ _ (next c cs h) tt)

  named-rest : (o : Option ℕ) (cs : List ℕ) → HasRest all cs → PartHasRest all (named_part o cs)
  named-rest (Some d) cs h = h
  named-rest None cs h = tt

  escape-rest : (cs : List ℕ) → HasRest all cs → PartHasRest all (escape cs)
  escape-rest [] h = tt
  escape-rest (c ∷ cs) h =
      let P : Part → Type 0 = PartHasRest all in
      let here = next c cs h in
      either P (c == 10) _ _ here (
      either P (c == 120) _ _ (numbered-rest _ _ _ (after (is_digit_of 16) cs here)) (
      either P (is_digit_of 8 c) _ _ (numbered-rest _ _ _ (after (is_digit_of 8) (c ∷ cs) h)) (named-rest (named_escape c) cs here)))

  part-rest : (q : ℕ) (cs : List ℕ) → HasRest all cs → PartHasRest all (part q cs)
  part-rest q [] h = tt
  part-rest q (c ∷ cs) h =
      let P : Part → Type 0 = PartHasRest all in
      let here = next c cs h in
      either P (c == q) _ _ (either P (first_is q cs) _ _ (tail cs here) here) (
      either P (c == 92) _ _ (escape-rest cs here) (
      either P (c == 10) _ _ tt here))

  characters-rest : (ds : List ℕ) (q : Quoted) → QuotedHasRest all q → QuotedHasRest all (with_characters ds q)
  characters-rest ds (QuotedThen cs rest) h = h
  characters-rest ds (WrongEscape from) h = h
  characters-rest ds NeverClosed h = tt

  parts-rest : (n q : ℕ) (cs : List ℕ) → HasRest all cs → QuotedHasRest all (quoted_parts n q cs)
  parts-rest zero q cs h = tt
  parts-rest (suc n) q cs h = go (part q cs) (part-rest q cs h) (parts-rest n q) where
    go : (p : Part) → PartHasRest all p → ((ds : List ℕ) → HasRest all ds → QuotedHasRest all (quoted_parts n q ds)) → QuotedHasRest all (after_part (quoted_parts n q) cs p)
    go (StandsFor d rest) k more = characters-rest (d ∷ []) (quoted_parts n q rest) (more rest k)
    go (StandsForNothing rest) k more = more rest k
    go (ClosingQuote rest) k more = k
    go NoEscape k more = h
    go CutOff k more = tt

  quoted-rest : (q : ℕ) (cs : List ℕ) → HasRest all cs → QuotedHasRest all (quoted q cs)
  unfolding quoted
  quoted-rest q cs h = parts-rest (length cs) q cs h

  -- ---- numerals

  digits-rest : (base : ℕ) (cs : List ℕ) → HasRest all cs → NumeralHasRest all (digits_numeral base cs)
  digits-rest base cs h = either (NumeralHasRest all) (nat_le (digits_value base (run (is_digit_of base) cs)) (2 ^ 63)) _ _ (after (is_digit_of base) cs h) tt

  decimal-rest : (cs : List ℕ) → HasRest all cs → NumeralHasRest all (decimal_numeral cs)
  decimal-rest cs h = either (NumeralHasRest all) (begins_fraction (after_run (is_digit_of 10) cs)) _ _ tt (digits-rest 10 cs h)

  escaped-rest : (from : List ℕ) (p : Part) → HasRest all from → PartHasRest all p → NumeralHasRest all (character_escape from p)
  escaped-rest from (StandsFor d rest) h k = k
  escaped-rest from (StandsForNothing rest) h k = h
  escaped-rest from (ClosingQuote rest) h k = h
  escaped-rest from NoEscape h k = h
  escaped-rest from CutOff h k = h

  character-rest : (cs : List ℕ) → HasRest all cs → MaybeHasRest all (character_numeral cs)
  character-rest [] h = tt
  character-rest (c ∷ cs) h =
      let P : Option Numeral → Type 0 = MaybeHasRest all in
      let here = next c cs h in
      either P (c == 39) _ _ (either P (first_is 39 cs) _ _ (tail cs here) tt) (
      either P (c == 92) _ _ (escaped-rest (c ∷ cs) (escape cs) h (escape-rest cs here)) here)

  based-rest : (o : Option ℕ) (cs : List ℕ) → HasRest all cs → MaybeHasRest all (based_numeral o cs)
  based-rest (Some base) cs h = digits-rest base (drop 1 cs) (tail cs h)
  based-rest None cs h = either (MaybeHasRest all) (first_is 39 cs) _ _ (character-rest (drop 1 cs) (tail cs h)) tt

  or-rest : (o : Option Numeral) (k : Numeral) → MaybeHasRest all o → NumeralHasRest all k → NumeralHasRest all (or_numeral o k)
  or-rest (Some n) k g h = g
  or-rest None k g h = h

  numeral-rest : (cs : List ℕ) → HasRest all cs → NumeralHasRest all (numeral cs)
  unfolding numeral
  numeral-rest cs h =
      either (NumeralHasRest all) (first_is 48 cs) _ _ (or-rest (zero_numeral (drop 1 cs)) (decimal_numeral cs) (based-rest (named_base (drop 1 cs)) (drop 1 cs) (tail cs h)) (decimal-rest cs h)) (decimal-rest cs h)

  -- ---- words

  numeral_word-rest : (from : List ℕ) (n : Numeral) → HasRest all from → NumeralHasRest all n → WordHasRest all (numeral_word from n)
  numeral_word-rest from (NumeralThen n rest) h k = k
  numeral_word-rest from FloatingPoint h k = h
  numeral_word-rest from TooWide h k = h
  numeral_word-rest from (WrongCharacter place) h k = k

  quoted_word-rest : (word : List ℕ → Word) (from : List ℕ) (q : Quoted) → HasRest all from → QuotedHasRest all q → WordHasRest all (quoted_word word from q)
  quoted_word-rest word from (QuotedThen cs rest) h k = k
  quoted_word-rest word from (WrongEscape place) h k = k
  quoted_word-rest word from NeverClosed h k = h

  word_at_front-rest : (cs : List ℕ) → HasRest all cs → WordHasRest all (word_at_front cs)
  word_at_front-rest [] h = h
  word_at_front-rest (c ∷ cs) h =
      let P : Lexed → Type 0 = WordHasRest all in
      let here = next c cs h in
      either P (is_small c) _ _ (after is_alphanumeric cs here) (
      either P (starts_variable c) _ _ (after is_alphanumeric cs here) (
      either P (is_digit_of 10 c) _ _ (numeral_word-rest (c ∷ cs) (numeral (c ∷ cs)) h (numeral-rest (c ∷ cs) h)) (
      either P (c == 39) _ _ (quoted_word-rest QuotedWord (c ∷ cs) (quoted 39 cs) h (quoted-rest 39 cs here)) (
      either P (c == 34) _ _ (quoted_word-rest TextWord (c ∷ cs) (quoted 34 cs) h (quoted-rest 34 cs here)) (
      either P (is_solo c) _ _ here (
      either P (is_punctuation c) _ _ here (
      either P ((c == 46) && ends_term cs) _ _ here (
      either P (is_symbol c) _ _ (after is_symbol cs here) h))))))))

  pub word-rest : (cs : List ℕ) → HasRest all cs → WordHasRest all (next_word cs)
  word-rest cs h = go (after_layout cs) (layout-rest cs h) where
    go : (g : Gap) → GapHasRest all g → WordHasRest all (word_after g)
    go (GapThen rest) k = word_at_front-rest rest k
    go (GapNotClosed from) k = k
