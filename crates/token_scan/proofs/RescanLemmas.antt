-- What was written is scanned again, whatever follows that can't be a part of it.
use Rattle.std.proofs.Common.{◌≡◌, ◌∙◌, ℕ, Bool, true, false, ◌&&◌, ◌==◌, ◌^◌, nat_le, List, [], ◌∷◌, ◌++◌, drop, None, refl, ap}
use Rattle.std.specs.List.{list_all}
use Rattle.std.specs.Str.Parse.{digits_value}
use Rattle.au_model.specs.Syntax.Characters.{is_small, is_solo, is_punctuation, is_symbol, is_alphanumeric, is_digit_of, starts_variable, run, after_run, first_is, first_passes}
use Rattle.au_model.specs.Syntax.Layout.{GapThen, NoLayout, layout_item, after_layout}
use Rattle.au_model.specs.Syntax.Numerals.{NumeralThen, begins_fraction, decimal_numeral, zero_numeral, numeral}
use Rattle.au_model.specs.Syntax.Words.{NameWord, VariableWord, MarkWord, Word, FoundWord, run_word, ends_term, word_at_front}
use Rattle.token_scan.proofs.LayoutLemmas.{after_layout-item}
use Rattle.au_term.proofs.LogicLemmas.{and-left as and_first, and-right as and_second}

pub run-again : (p : ℕ → Bool) (cs z : List ℕ) → list_all p cs ≡ true → first_passes p z ≡ false → run p (cs ++ z) ≡ cs
run-again p [] [] h e = refl
run-again p [] (d ∷ z) h e = rw e refl
run-again p (c ∷ cs) z h e = rw (and_first (p c) (list_all p cs) h) (ap (λ ds. c ∷ ds) (run-again p cs z (and_second (p c) (list_all p cs) h) e))

pub after_run-again : (p : ℕ → Bool) (cs z : List ℕ) → list_all p cs ≡ true → first_passes p z ≡ false → after_run p (cs ++ z) ≡ z
after_run-again p [] [] h e = refl
after_run-again p [] (d ∷ z) h e = rw e refl
after_run-again p (c ∷ cs) z h e = rw (and_first (p c) (list_all p cs) h) (after_run-again p cs z (and_second (p c) (list_all p cs) h) e)

run_word-again : (word : List ℕ → Word) (p : ℕ → Bool) (c : ℕ) (cs z : List ℕ) → list_all p cs ≡ true → first_passes p z ≡ false
    → run_word word p c (cs ++ z) ≡ FoundWord (word (c ∷ cs)) z
run_word-again word p c cs z h e = ap (λ ds. FoundWord (word (c ∷ ds)) (after_run p (cs ++ z))) (run-again p cs z h e) ∙ ap (FoundWord (word (c ∷ cs))) (after_run-again p cs z h e)

pub name-again : (c : ℕ) (cs z : List ℕ) → is_small c ≡ true → list_all is_alphanumeric cs ≡ true → first_passes is_alphanumeric z ≡ false
    → word_at_front ((c ∷ cs) ++ z) ≡ FoundWord (NameWord (c ∷ cs)) z
name-again c cs z s h e = rw s (run_word-again NameWord is_alphanumeric c cs z h e)

pub variable-again : (c : ℕ) (cs z : List ℕ) → is_small c ≡ false → starts_variable c ≡ true → list_all is_alphanumeric cs ≡ true → first_passes is_alphanumeric z ≡ false
    → word_at_front ((c ∷ cs) ++ z) ≡ FoundWord (VariableWord (c ∷ cs)) z
variable-again c cs z s v h e = rw (s, v) (run_word-again VariableWord is_alphanumeric c cs z h e)

-- a character that is no letter, no digit and no quote
pub record IsSign (c : ℕ) : Type 0 where
  pub small : is_small c ≡ false
  pub variable : starts_variable c ≡ false
  pub digit : is_digit_of 10 c ≡ false
  pub single : (c == 39) ≡ false
  pub double : (c == 34) ≡ false

pub solo-again : (c : ℕ) (z : List ℕ) → IsSign c → is_solo c ≡ true → word_at_front (c ∷ z) ≡ FoundWord (NameWord (c ∷ [])) z
solo-again c z i s = rw (i.small, i.variable, i.digit, i.single, i.double, s)

pub mark-again : (c : ℕ) (z : List ℕ) → IsSign c → is_solo c ≡ false → is_punctuation c ≡ true → word_at_front (c ∷ z) ≡ FoundWord (MarkWord c) z
mark-again c z i s p = rw (i.small, i.variable, i.digit, i.single, i.double, s, p)

pub symbols-again : (c : ℕ) (cs z : List ℕ) → IsSign c → is_solo c ≡ false → is_punctuation c ≡ false → ((c == 46) && ends_term (cs ++ z)) ≡ false → is_symbol c ≡ true
    → list_all is_symbol cs ≡ true → first_passes is_symbol z ≡ false → word_at_front ((c ∷ cs) ++ z) ≡ FoundWord (NameWord (c ∷ cs)) z
symbols-again c cs z i s p n y h e = rw (i.small, i.variable, i.digit, i.single, i.double, s, p, n, y) (run_word-again NameWord is_symbol c cs z h e)

-- where no layout is, and after one space
pub none-again : (z : List ℕ) → layout_item z ≡ NoLayout → after_layout z ≡ GapThen z
none-again z e = let h = after_layout-item z in rw e at h

pub space-again : (z : List ℕ) → layout_item z ≡ NoLayout → after_layout (32 ∷ z) ≡ GapThen z
space-again z e = after_layout-item (32 ∷ z) ∙ none-again z e

-- digits, after which neither a digit nor a fraction is, and where a `0` comes first nothing that makes more of it
pub decimal-again : (ds z : List ℕ) → list_all (is_digit_of 10) ds ≡ true → first_passes (is_digit_of 10) z ≡ false → begins_fraction z ≡ false
    → nat_le (digits_value 10 ds) (2 ^ 63) ≡ true → (first_is 48 (ds ++ z) ≡ true → zero_numeral (drop 1 (ds ++ z)) ≡ None) → numeral (ds ++ z) ≡ NumeralThen (digits_value 10 ds) z
unfolding numeral
decimal-again ds z h e f w n = go (first_is 48 (ds ++ z)) refl where
  plain : decimal_numeral (ds ++ z) ≡ NumeralThen (digits_value 10 ds) z
  plain = rw (after_run-again (is_digit_of 10) ds z h e, run-again (is_digit_of 10) ds z h e, f, w)

  go : (b : Bool) → first_is 48 (ds ++ z) ≡ b → numeral (ds ++ z) ≡ NumeralThen (digits_value 10 ds) z
  go true t = rw (t, n t) plain
  go false t = rw t plain
