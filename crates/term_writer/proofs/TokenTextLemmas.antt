-- The characters of a written token are scanned as that token, whatever follows that can't be a part of it.
use Rattle.std.proofs.Common.{◌≡◌, ℕ, zero, suc, ◌+◌, ◌-◌, ◌<◌, ◌≤◌, ◌^◌, Bool, true, false, not, ◌&&◌, ◌||◌, ◌==◌, nat_le, nat_lt, cond, List, [], ◌∷◌, ◌++◌, length, None, codes, refl, sym, ap, ◌∙◌, subst, arith, append_assoc, if◌then◌else◌}
use Rattle.std.specs.List.{list_all}
use Rattle.std.specs.Char.{is_ascii_digit}
use Rattle.std.specs.Fmt.{decimal}
use Rattle.std.specs.Str.{all_ascii_digits}
use Rattle.std.specs.Str.Parse.{digits_value}
use Rattle.std.proofs.lemmas.Str.Parse.{IsNumeralModel, numerals_by_value, tells_all_ascii_digits}
use Rattle.std.proofs.lemmas.Fmt.{digits_decimal, digits_value-decimal, decimal_nonempty}
use Rattle.au_model.specs.Syntax.Characters.{is_blank, is_symbol, is_solo, is_punctuation, is_small, starts_variable, is_alphanumeric, is_digit_of, is_one_of, first_passes, first_is}
use Rattle.au_model.specs.Terms.Forms.{same_name}
use Rattle.au_model.specs.Syntax.Layout.{NoLayout, layout_item}
use Rattle.au_model.specs.Syntax.Tokens.{Lexeme, Name, QuotedName, Variable, Integer, Text, Open, Close, OpenList, CloseList, OpenCurly, CloseCurly, Comma, Bar, End}
use Rattle.au_model.specs.Writing.NameForms.{is_letter_name, begins_comment, is_symbol_name, is_solo_name, hexadecimal}
use Rattle.au_model.specs.Syntax.Numerals.{begins_fraction, zero_numeral}
use Rattle.au_model.specs.Syntax.Quoted.{StandsFor, part, QuotedThen, quoted, with_characters}
use Rattle.au_model.specs.Syntax.Words.{Word, NameWord, QuotedWord, VariableWord, IntegerWord, TextWord, MarkWord, StopWord, FoundWord, word_at_front, ends_term, numeral_word, quoted_word}
use Rattle.token_scan.proofs.RescanLemmas.{IsSign, name-again, variable-again, solo-again, mark-again, symbols-again, decimal-again}
use Rattle.token_scan.proofs.QuotedItemLemmas.{quoted-part, quoted-stands}
use Rattle.au_term.proofs.LogicLemmas.{and-left as and_left, and-right as and_right, not-true as not_false, and-false as and_none, same_number, or-left as or_left, or-right as or_right}

-- a character between quotes, escaped where it has to be
abbrev pub escaped_char : ℕ → List ℕ
escaped_char c =
    if (c == 92) || (c == 39) then 92 ∷ c ∷ []
    else if c == 10 then codes "\\n"
    else if nat_lt c 32 || (c == 127) then codes "\\x" ++ hexadecimal c ++ codes "\\"
    else c ∷ []

abbrev pub escaped_chars : List ℕ → List ℕ
escaped_chars [] = []
escaped_chars (c ∷ cs) = escaped_char c ++ escaped_chars cs

-- the characters of a token in quoted style
abbrev pub token_chars : Lexeme → List ℕ
token_chars (Name n) = n
token_chars (QuotedName n) = 39 ∷ escaped_chars n ++ 39 ∷ []
token_chars (Variable n) = n
token_chars (Integer k) = decimal k
token_chars (Text cs) = 34 ∷ escaped_chars cs ++ 34 ∷ []
token_chars Open = 40 ∷ []
token_chars Close = 41 ∷ []
token_chars OpenList = 91 ∷ []
token_chars CloseList = 93 ∷ []
token_chars OpenCurly = 123 ∷ []
token_chars CloseCurly = 125 ∷ []
token_chars Comma = 44 ∷ []
token_chars Bar = 124 ∷ []
token_chars End = 46 ∷ []

abbrev pub word_of : Lexeme → Word
word_of (Name n) = NameWord n
word_of (QuotedName n) = QuotedWord n
word_of (Variable n) = VariableWord n
word_of (Integer k) = IntegerWord k
word_of (Text cs) = TextWord cs
word_of Open = MarkWord 40
word_of Close = MarkWord 41
word_of OpenList = MarkWord 91
word_of CloseList = MarkWord 93
word_of OpenCurly = MarkWord 123
word_of CloseCurly = MarkWord 125
word_of Comma = MarkWord 44
word_of Bar = MarkWord 124
word_of End = StopWord

pub record Rescans (x : Lexeme) (z : List ℕ) : Type 0 where
  pub word : word_at_front (token_chars x ++ z) ≡ FoundWord (word_of x) z
  pub bare : layout_item (token_chars x ++ z) ≡ NoLayout

-- ---- characters that are one of a few

abbrev pub EachOf : (ℕ → Type 0) → List ℕ → Type 0
EachOf P [] = Unit {0}
EachOf P (c ∷ cs) = P c × EachOf P cs

pub one_of : (P : ℕ → Type 0) (cs : List ℕ) (c : ℕ) → EachOf P cs → is_one_of cs c ≡ true → P c
one_of P [] c ps e = let f : ⊥ = cc in absurd f
one_of P (d ∷ cs) c ps e = go (c == d) refl (one_of P cs c ps.1) e
  where
    go : (b : Bool) → (c == d) ≡ b → (is_one_of cs c ≡ true → P c) → (b || is_one_of cs c) ≡ true → P c
    go true q further h = let same : d ≡ c = grind (arith, q) in subst P same ps.0
    go false q further h = further h

-- what a character that is no letter, digit, quote or blank says
pub record IsMark (c : ℕ) : Type 0 where
  pub sign : IsSign c
  pub blank : is_blank c ≡ false
  pub percent : (c == 37) ≡ false
  pub other : is_alphanumeric c ≡ false

pub record IsSymbolMark (c : ℕ) : Type 0 where
  pub mark : IsMark c
  pub solo : is_solo c ≡ false
  pub punctuation : is_punctuation c ≡ false

symbol_43 : IsSymbolMark 43
symbol_43 = record { mark = record { sign = record { small = refl; variable = refl; digit = refl; single = refl; double = refl }; blank = refl; percent = refl; other = refl }; solo = refl; punctuation = refl }

symbol_45 : IsSymbolMark 45
symbol_45 = record { mark = record { sign = record { small = refl; variable = refl; digit = refl; single = refl; double = refl }; blank = refl; percent = refl; other = refl }; solo = refl; punctuation = refl }

symbol_42 : IsSymbolMark 42
symbol_42 = record { mark = record { sign = record { small = refl; variable = refl; digit = refl; single = refl; double = refl }; blank = refl; percent = refl; other = refl }; solo = refl; punctuation = refl }

symbol_47 : IsSymbolMark 47
symbol_47 = record { mark = record { sign = record { small = refl; variable = refl; digit = refl; single = refl; double = refl }; blank = refl; percent = refl; other = refl }; solo = refl; punctuation = refl }

symbol_92 : IsSymbolMark 92
symbol_92 = record { mark = record { sign = record { small = refl; variable = refl; digit = refl; single = refl; double = refl }; blank = refl; percent = refl; other = refl }; solo = refl; punctuation = refl }

symbol_94 : IsSymbolMark 94
symbol_94 = record { mark = record { sign = record { small = refl; variable = refl; digit = refl; single = refl; double = refl }; blank = refl; percent = refl; other = refl }; solo = refl; punctuation = refl }

symbol_60 : IsSymbolMark 60
symbol_60 = record { mark = record { sign = record { small = refl; variable = refl; digit = refl; single = refl; double = refl }; blank = refl; percent = refl; other = refl }; solo = refl; punctuation = refl }

symbol_62 : IsSymbolMark 62
symbol_62 = record { mark = record { sign = record { small = refl; variable = refl; digit = refl; single = refl; double = refl }; blank = refl; percent = refl; other = refl }; solo = refl; punctuation = refl }

symbol_61 : IsSymbolMark 61
symbol_61 = record { mark = record { sign = record { small = refl; variable = refl; digit = refl; single = refl; double = refl }; blank = refl; percent = refl; other = refl }; solo = refl; punctuation = refl }

symbol_126 : IsSymbolMark 126
symbol_126 = record { mark = record { sign = record { small = refl; variable = refl; digit = refl; single = refl; double = refl }; blank = refl; percent = refl; other = refl }; solo = refl; punctuation = refl }

symbol_58 : IsSymbolMark 58
symbol_58 = record { mark = record { sign = record { small = refl; variable = refl; digit = refl; single = refl; double = refl }; blank = refl; percent = refl; other = refl }; solo = refl; punctuation = refl }

symbol_46 : IsSymbolMark 46
symbol_46 = record { mark = record { sign = record { small = refl; variable = refl; digit = refl; single = refl; double = refl }; blank = refl; percent = refl; other = refl }; solo = refl; punctuation = refl }

symbol_63 : IsSymbolMark 63
symbol_63 = record { mark = record { sign = record { small = refl; variable = refl; digit = refl; single = refl; double = refl }; blank = refl; percent = refl; other = refl }; solo = refl; punctuation = refl }

symbol_64 : IsSymbolMark 64
symbol_64 = record { mark = record { sign = record { small = refl; variable = refl; digit = refl; single = refl; double = refl }; blank = refl; percent = refl; other = refl }; solo = refl; punctuation = refl }

symbol_35 : IsSymbolMark 35
symbol_35 = record { mark = record { sign = record { small = refl; variable = refl; digit = refl; single = refl; double = refl }; blank = refl; percent = refl; other = refl }; solo = refl; punctuation = refl }

symbol_38 : IsSymbolMark 38
symbol_38 = record { mark = record { sign = record { small = refl; variable = refl; digit = refl; single = refl; double = refl }; blank = refl; percent = refl; other = refl }; solo = refl; punctuation = refl }

symbol_36 : IsSymbolMark 36
symbol_36 = record { mark = record { sign = record { small = refl; variable = refl; digit = refl; single = refl; double = refl }; blank = refl; percent = refl; other = refl }; solo = refl; punctuation = refl }

pub symbol_mark : (c : ℕ) → is_symbol c ≡ true → IsSymbolMark c
symbol_mark c e = one_of IsSymbolMark (codes "+-*/\\^<>=~:.?@#&$") c (symbol_43, (symbol_45, (symbol_42, (symbol_47, (symbol_92, (symbol_94, (symbol_60, (symbol_62, (symbol_61, (symbol_126, (symbol_58, (symbol_46, (symbol_63, (symbol_64, (symbol_35, (symbol_38, (symbol_36, tt))))))))))))))))) e

solo_33 : IsMark 33
solo_33 = record { sign = record { small = refl; variable = refl; digit = refl; single = refl; double = refl }; blank = refl; percent = refl; other = refl }

solo_59 : IsMark 59
solo_59 = record { sign = record { small = refl; variable = refl; digit = refl; single = refl; double = refl }; blank = refl; percent = refl; other = refl }

pub solo_mark : (c : ℕ) → is_solo c ≡ true → IsMark c
solo_mark c e = one_of IsMark (codes "!;") c (solo_33, (solo_59, tt)) e

no_layout : (c : ℕ) (cs : List ℕ) → is_blank c ≡ false → (c == 37) ≡ false → ((c == 47) && first_is 42 cs) ≡ false → layout_item (c ∷ cs) ≡ NoLayout
no_layout c cs b p s = rw (b, p, s) refl

-- ---- names

-- a small letter is no blank and begins no comment
small_high : (c : ℕ) → is_small c ≡ true → 64 ≤ c
small_high c e = go (nat_le 64 c) refl
  where
    go : (b : Bool) → nat_le 64 c ≡ b → 64 ≤ c
    go true h = grind (arith, h)
    go false h =
        let low : nat_le 97 c ≡ false = grind (arith, h) in
        let ascii : nat_le 128 c ≡ false = grind (arith, h) in
        let none : is_small c ≡ false = rw (low, ascii) refl in
        let f : false ≡ true = sym none ∙ e in
        let g : ⊥ = cc in absurd g

pub letter_rescans : (n z : List ℕ) → is_letter_name n ≡ true → first_passes is_alphanumeric z ≡ false → Rescans (Name n) z
letter_rescans [] z e h = let f : ⊥ = cc in absurd f
letter_rescans (c ∷ cs) z e h =
    let small = and_left (is_small c) _ e in
    let high = small_high c small in
    let blank : is_blank c ≡ false = grind (arith, high) in
    let percent : (c == 37) ≡ false = grind (arith, high) in
    let slash : (c == 47) ≡ false = grind (arith, high) in
    record {
      word = name-again c cs z small (and_right (is_alphanumeric c) _ (and_right (is_small c) _ e)) h;
      bare = no_layout c (cs ++ z) blank percent (rw slash refl);
    }

no_star : (cs z : List ℕ) → first_is 42 cs ≡ false → first_passes is_symbol z ≡ false → first_is 42 (cs ++ z) ≡ false
no_star [] [] e h = refl
no_star [] (d ∷ z) e h = go (d == 42) refl
  where
    go : (b : Bool) → (d == 42) ≡ b → (d == 42) ≡ false
    go true q = let same : d ≡ 42 = grind (arith, q) in let k : is_symbol 42 ≡ false = subst (λ x. is_symbol x ≡ false) same h in let f : ⊥ = cc in absurd f
    go false q = q
no_star (c ∷ cs) z e h = e

no_comment : (c : ℕ) (cs z : List ℕ) → begins_comment (c ∷ cs) ≡ false → first_passes is_symbol z ≡ false → ((c == 47) && first_is 42 (cs ++ z)) ≡ false
no_comment c cs z e h = go (c == 47) e
  where
    go : (b : Bool) → (b && first_is 42 cs) ≡ false → (b && first_is 42 (cs ++ z)) ≡ false
    go true k = no_star cs z k h
    go false k = refl

-- a run of symbol characters other than `.` alone ends no term
runs_on : (c : ℕ) (cs z : List ℕ) → same_name (c ∷ cs) (codes ".") ≡ false → list_all is_symbol cs ≡ true → ((c == 46) && ends_term (cs ++ z)) ≡ false
runs_on c [] z e h = go (c == 46) refl
  where
    go : (b : Bool) → (c == 46) ≡ b → (b && ends_term z) ≡ false
    go true q =
        let same : c ≡ 46 = grind (arith, q) in
        let k : true ≡ false = subst (λ x. same_name (x ∷ []) (codes ".") ≡ false) same e in
        let f : ⊥ = cc in absurd f
    go false q = refl
runs_on c (d ∷ cs) z e h =
    let m = symbol_mark d (and_left (is_symbol d) _ h) in
    let stop : ends_term ((d ∷ cs) ++ z) ≡ false = rw (m.mark.blank, m.mark.percent) refl in
    rw stop (and_none (c == 46))

pub symbols_rescan : (n z : List ℕ) → is_symbol_name n ≡ true → first_passes is_symbol z ≡ false → Rescans (Name n) z
symbols_rescan [] z e h = let f : ⊥ = cc in absurd f
symbols_rescan (c ∷ cs) z e h =
    let first = and_left (is_symbol c) _ e in
    let rest = and_right (is_symbol c) _ e in
    let all = and_right (is_symbol c) _ (and_left (is_symbol c && list_all is_symbol cs) _ rest) in
    let more = and_right (is_symbol c && list_all is_symbol cs) _ rest in
    let comment = not_false _ (and_left (not (begins_comment (c ∷ cs))) _ more) in
    let stop = not_false _ (and_right (not (begins_comment (c ∷ cs))) _ more) in
    let m = symbol_mark c first in
    record {
      word = symbols-again c cs z m.mark.sign m.solo m.punctuation (runs_on c cs z stop all) first all h;
      bare = no_layout c (cs ++ z) m.mark.blank m.mark.percent (no_comment c cs z comment h);
    }

solo_slash : (c : ℕ) → is_solo c ≡ true → (c == 47) ≡ false
solo_slash c e = one_of (λ d. (d == 47) ≡ false) (codes "!;") c (refl, (refl, tt)) e

pub solo_rescans : (n z : List ℕ) → is_solo_name n ≡ true → Rescans (Name n) z
solo_rescans [] z e = let f : ⊥ = cc in absurd f
solo_rescans (c ∷ []) z e =
    let m = solo_mark c e in
    record { word = solo-again c z m.sign e; bare = no_layout c z m.blank m.percent (rw (solo_slash c e) refl) }
solo_rescans (c ∷ d ∷ cs) z e = let f : ⊥ = cc in absurd f

-- ---- marks

rescans_mark : (c : ℕ) (z : List ℕ) → IsMark c → is_solo c ≡ false → is_punctuation c ≡ true → (c == 47) ≡ false → (word_at_front (c ∷ z) ≡ FoundWord (MarkWord c) z) × (layout_item (c ∷ z) ≡ NoLayout)
rescans_mark c z m s p k = (mark-again c z m.sign s p, no_layout c z m.blank m.percent (rw k refl))

mark_40 : IsMark 40
mark_40 = record { sign = record { small = refl; variable = refl; digit = refl; single = refl; double = refl }; blank = refl; percent = refl; other = refl }

pub Open_rescans : (z : List ℕ) → Rescans Open z
Open_rescans z = let r = rescans_mark 40 z mark_40 refl refl refl in record { word = r.0; bare = r.1 }

mark_41 : IsMark 41
mark_41 = record { sign = record { small = refl; variable = refl; digit = refl; single = refl; double = refl }; blank = refl; percent = refl; other = refl }

pub Close_rescans : (z : List ℕ) → Rescans Close z
Close_rescans z = let r = rescans_mark 41 z mark_41 refl refl refl in record { word = r.0; bare = r.1 }

mark_91 : IsMark 91
mark_91 = record { sign = record { small = refl; variable = refl; digit = refl; single = refl; double = refl }; blank = refl; percent = refl; other = refl }

pub OpenList_rescans : (z : List ℕ) → Rescans OpenList z
OpenList_rescans z = let r = rescans_mark 91 z mark_91 refl refl refl in record { word = r.0; bare = r.1 }

mark_93 : IsMark 93
mark_93 = record { sign = record { small = refl; variable = refl; digit = refl; single = refl; double = refl }; blank = refl; percent = refl; other = refl }

pub CloseList_rescans : (z : List ℕ) → Rescans CloseList z
CloseList_rescans z = let r = rescans_mark 93 z mark_93 refl refl refl in record { word = r.0; bare = r.1 }

mark_123 : IsMark 123
mark_123 = record { sign = record { small = refl; variable = refl; digit = refl; single = refl; double = refl }; blank = refl; percent = refl; other = refl }

pub OpenCurly_rescans : (z : List ℕ) → Rescans OpenCurly z
OpenCurly_rescans z = let r = rescans_mark 123 z mark_123 refl refl refl in record { word = r.0; bare = r.1 }

mark_125 : IsMark 125
mark_125 = record { sign = record { small = refl; variable = refl; digit = refl; single = refl; double = refl }; blank = refl; percent = refl; other = refl }

pub CloseCurly_rescans : (z : List ℕ) → Rescans CloseCurly z
CloseCurly_rescans z = let r = rescans_mark 125 z mark_125 refl refl refl in record { word = r.0; bare = r.1 }

mark_44 : IsMark 44
mark_44 = record { sign = record { small = refl; variable = refl; digit = refl; single = refl; double = refl }; blank = refl; percent = refl; other = refl }

pub Comma_rescans : (z : List ℕ) → Rescans Comma z
Comma_rescans z = let r = rescans_mark 44 z mark_44 refl refl refl in record { word = r.0; bare = r.1 }

mark_124 : IsMark 124
mark_124 = record { sign = record { small = refl; variable = refl; digit = refl; single = refl; double = refl }; blank = refl; percent = refl; other = refl }

pub Bar_rescans : (z : List ℕ) → Rescans Bar z
Bar_rescans z = let r = rescans_mark 124 z mark_124 refl refl refl in record { word = r.0; bare = r.1 }

pub End_rescans : Rescans End []
End_rescans = record { word = refl; bare = refl }

-- ---- numbers and variables

own : IsNumeralModel (λ ds. all_ascii_digits ds ≡ true) (digits_value 10)
own = numerals_by_value (λ ds. all_ascii_digits ds ≡ true) tells_all_ascii_digits

pub decimal_digits : (k : ℕ) → k < 2 ^ 64 → all_ascii_digits (decimal k) ≡ true
decimal_digits k h = digits_decimal own k h

pub decimal_value : (k : ℕ) → k < 2 ^ 64 → digits_value 10 (decimal k) ≡ k
decimal_value k h = digits_value-decimal own k h

-- what a digit says
record IsDigitMark (c : ℕ) : Type 0 where
  pub small : is_small c ≡ false
  pub variable : starts_variable c ≡ false
  pub digit : is_digit_of 10 c ≡ true
  pub part : is_alphanumeric c ≡ true
  pub blank : is_blank c ≡ false
  pub percent : (c == 37) ≡ false
  pub slash : (c == 47) ≡ false
  pub symbol : is_symbol c ≡ false
  pub point : (c == 46) ≡ false
  pub base : ((c == 120) || ((c == 111) || ((c == 98) || (c == 39)))) ≡ false

ten : (k : ℕ) → k < 10 → IsDigitMark (48 + k)
ten zero h = record { small = refl; variable = refl; digit = refl; part = refl; blank = refl; percent = refl; slash = refl; symbol = refl; point = refl; base = refl }
ten (suc zero) h = record { small = refl; variable = refl; digit = refl; part = refl; blank = refl; percent = refl; slash = refl; symbol = refl; point = refl; base = refl }
ten (suc (suc zero)) h = record { small = refl; variable = refl; digit = refl; part = refl; blank = refl; percent = refl; slash = refl; symbol = refl; point = refl; base = refl }
ten (suc (suc (suc zero))) h = record { small = refl; variable = refl; digit = refl; part = refl; blank = refl; percent = refl; slash = refl; symbol = refl; point = refl; base = refl }
ten (suc (suc (suc (suc zero)))) h = record { small = refl; variable = refl; digit = refl; part = refl; blank = refl; percent = refl; slash = refl; symbol = refl; point = refl; base = refl }
ten (suc (suc (suc (suc (suc zero))))) h = record { small = refl; variable = refl; digit = refl; part = refl; blank = refl; percent = refl; slash = refl; symbol = refl; point = refl; base = refl }
ten (suc (suc (suc (suc (suc (suc zero)))))) h = record { small = refl; variable = refl; digit = refl; part = refl; blank = refl; percent = refl; slash = refl; symbol = refl; point = refl; base = refl }
ten (suc (suc (suc (suc (suc (suc (suc zero))))))) h = record { small = refl; variable = refl; digit = refl; part = refl; blank = refl; percent = refl; slash = refl; symbol = refl; point = refl; base = refl }
ten (suc (suc (suc (suc (suc (suc (suc (suc zero)))))))) h = record { small = refl; variable = refl; digit = refl; part = refl; blank = refl; percent = refl; slash = refl; symbol = refl; point = refl; base = refl }
ten (suc (suc (suc (suc (suc (suc (suc (suc (suc zero))))))))) h = record { small = refl; variable = refl; digit = refl; part = refl; blank = refl; percent = refl; slash = refl; symbol = refl; point = refl; base = refl }
ten (suc (suc (suc (suc (suc (suc (suc (suc (suc (suc k)))))))))) h = absurd (omega arith)

digit_mark : (c : ℕ) → is_ascii_digit c ≡ true → IsDigitMark c
digit_mark c e =
    let low : 48 ≤ c = grind (arith, and_left (nat_le 48 c) (nat_le c 57) e) in
    let high : c ≤ 57 = grind (arith, and_right (nat_le 48 c) (nat_le c 57) e) in
    let same : 48 + (c - 48) ≡ c = omega arith in
    subst IsDigitMark same (ten (c - 48) (omega arith))

digits_are : (ds : List ℕ) → all_ascii_digits ds ≡ true → list_all (is_digit_of 10) ds ≡ true
digits_are [] e = refl
digits_are (d ∷ ds) e = let m = digit_mark d (and_left (is_ascii_digit d) _ e) in rw m.digit (digits_are ds (and_right (is_ascii_digit d) _ e))

digits_part : (ds : List ℕ) → all_ascii_digits ds ≡ true → list_all is_alphanumeric ds ≡ true
digits_part [] e = refl
digits_part (d ∷ ds) e = let m = digit_mark d (and_left (is_ascii_digit d) _ e) in rw m.part (digits_part ds (and_right (is_ascii_digit d) _ e))

pub variable_rescans : (k : ℕ) (z : List ℕ) → k < 2 ^ 64 → first_passes is_alphanumeric z ≡ false → Rescans (Variable (95 ∷ decimal k)) z
variable_rescans k z h e = record { word = variable-again 95 (decimal k) z refl refl (digits_part (decimal k) (decimal_digits k h)) e; bare = no_layout 95 (decimal k ++ z) refl refl refl }

not_first : (q : ℕ) → is_alphanumeric q ≡ true → (z : List ℕ) → first_passes is_alphanumeric z ≡ false → first_is q z ≡ false
not_first q a [] h = refl
not_first q a (d ∷ z) h = go (d == q) refl
  where
    go : (b : Bool) → (d == q) ≡ b → (d == q) ≡ false
    go true e =
        let same = same_number d q e in
        let k : is_alphanumeric q ≡ false = subst (λ x. is_alphanumeric x ≡ false) same h in
        let f : true ≡ false = sym a ∙ k in
        let g : ⊥ = cc in absurd g
    go false e = e

none_based : (cs : List ℕ) → first_is 120 cs ≡ false → first_is 111 cs ≡ false → first_is 98 cs ≡ false → first_is 39 cs ≡ false → zero_numeral cs ≡ None
none_based cs a b d e = rw (a, b, d, e) refl

-- after a `0` nothing makes more of it
zero_alone : (ds z : List ℕ) → all_ascii_digits ds ≡ true → first_passes is_alphanumeric z ≡ false → first_is 39 z ≡ false → zero_numeral (ds ++ z) ≡ None
zero_alone [] z e h q = none_based z (not_first 120 refl z h) (not_first 111 refl z h) (not_first 98 refl z h) q
zero_alone (d ∷ ds) z e h q =
    let m = (digit_mark d (and_left (is_ascii_digit d) _ e)).base in
    let n = or_right (d == 120) _ m in
    let o = or_right (d == 111) _ n in
    none_based (d ∷ ds ++ z) (or_left (d == 120) _ m) (or_left (d == 111) _ n) (or_left (d == 98) _ o) (or_right (d == 98) _ o)

not_digit : (z : List ℕ) → first_passes is_alphanumeric z ≡ false → first_passes (is_digit_of 10) z ≡ false
not_digit [] h = refl
not_digit (d ∷ z) h = go (nat_lt d 48) (nat_lt d 58) refl refl
  where
    above : (a b e f : Bool) → nat_lt d 58 ≡ false → nat_lt d 65 ≡ a → nat_lt d 91 ≡ b → nat_lt d 97 ≡ e → nat_lt d 123 ≡ f
        → nat_lt (cond a 36 (cond b (d - 55) (cond e 36 (cond f (d - 87) 36)))) 10 ≡ false
    above true b e f w p q r t = refl
    above false true e f w p q r t = grind (arith, p)
    above false false true f w p q r t = refl
    above false false false true w p q r t = grind (arith, r)
    above false false false false w p q r t = refl

    go : (a b : Bool) → nat_lt d 48 ≡ a → nat_lt d 58 ≡ b → is_digit_of 10 d ≡ false
    go true b p q = rw p refl
    go false true p q =
        let low : 48 ≤ d = grind (arith, p) in
        let high : d < 58 = grind (arith, q) in
        let same : 48 + (d - 48) ≡ d = omega arith in
        let k : true ≡ false = sym (subst IsDigitMark same (ten (d - 48) (omega arith))).part ∙ h in
        let f : ⊥ = cc in absurd f
    go false false p q = rw (p, q) (above (nat_lt d 65) (nat_lt d 91) (nat_lt d 97) (nat_lt d 123) q refl refl refl refl)

within_width : (n : ℕ) → n ≤ 2 ^ 63 → nat_le n (2 ^ 63) ≡ true
within_width n h = grind (arith, h)

pub digits_rescan : (ds z : List ℕ) → 0 < length ds → all_ascii_digits ds ≡ true → digits_value 10 ds ≤ 2 ^ 63 → first_passes is_alphanumeric z ≡ false → begins_fraction z ≡ false → first_is 39 z ≡ false
    → (word_at_front (ds ++ z) ≡ FoundWord (IntegerWord (digits_value 10 ds)) z) × (layout_item (ds ++ z) ≡ NoLayout)
digits_rescan [] z lt e v h f q = absurd (omega arith)
digits_rescan (d ∷ ds) z lt e v h f q =
    let m = digit_mark d (and_left (is_ascii_digit d) _ e) in
    let width = within_width (digits_value 10 (d ∷ ds)) v in
    let number = decimal-again (d ∷ ds) z (digits_are (d ∷ ds) e) (not_digit z h) f width (λ k. zero_alone ds z (and_right (is_ascii_digit d) _ e) h q) in
    (rw (m.small, m.variable, m.digit) (ap (numeral_word (d ∷ ds ++ z)) number), no_layout d (ds ++ z) m.blank m.percent (rw m.slash refl))

pub integer_rescans : (k : ℕ) (z : List ℕ) → k ≤ 2 ^ 63 → first_passes is_alphanumeric z ≡ false → begins_fraction z ≡ false → first_is 39 z ≡ false → Rescans (Integer k) z
integer_rescans k z w h f q =
    let small : k < 2 ^ 64 = omega arith in
    let value = decimal_value k small in
    let within : digits_value 10 (decimal k) ≤ 2 ^ 63 = rw value w in
    let r = digits_rescan (decimal k) z (decimal_nonempty k small) (decimal_digits k small) within h f q in
    record { word = r.0 ∙ ap (λ n. FoundWord (IntegerWord n) z) value; bare = r.1 }

-- ---- quoted names

abbrev pub EachBelow : (ℕ → Type 0) → ℕ → Type 0
EachBelow P zero = Unit {0}
EachBelow P (suc n) = EachBelow P n × P n

pub below : (P : ℕ → Type 0) (n c : ℕ) → EachBelow P n → c < n → P c
below P zero c ps lt = absurd (omega arith)
below P (suc n) c ps lt = go (c == n) refl (below P n c ps.0)
  where
    go : (b : Bool) → (c == n) ≡ b → (c < n → P c) → P c
    go true e further = let same : n ≡ c = grind (arith, e) in subst P same ps.1
    go false e further = further (grind (arith, e, lt))

abbrev pub ReadsCode : ℕ → Type 0
ReadsCode c = (r : List ℕ) → part 39 (92 ∷ 120 ∷ hexadecimal c ++ 92 ∷ r) ≡ StandsFor c r

pub control_codes : EachBelow ReadsCode 32
control_codes = ((((((((((((((((((((((((((((((((tt, λ r. refl), λ r. refl), λ r. refl), λ r. refl), λ r. refl), λ r. refl), λ r. refl), λ r. refl), λ r. refl), λ r. refl), λ r. refl), λ r. refl), λ r. refl), λ r. refl), λ r. refl), λ r. refl), λ r. refl), λ r. refl), λ r. refl), λ r. refl), λ r. refl), λ r. refl), λ r. refl), λ r. refl), λ r. refl), λ r. refl), λ r. refl), λ r. refl), λ r. refl), λ r. refl), λ r. refl), λ r. refl)

delete_code : ReadsCode 127
delete_code = λ r. refl

-- a character between quotes, whatever follows
char_read : (c : ℕ) (r : List ℕ) → part 39 (escaped_char c ++ r) ≡ StandsFor c r
char_read c r = named (c == 92) (c == 39) refl refl
  where
    plain : (a b : Bool) → nat_lt c 32 ≡ a → (c == 127) ≡ b → (c == 92) ≡ false → (c == 39) ≡ false → (c == 10) ≡ false → part 39 (escaped_char c ++ r) ≡ StandsFor c r
    plain true b p q e f g = rw (e, f, g, p) (ap (λ t. part 39 (92 ∷ 120 ∷ t)) (append_assoc (hexadecimal c) (92 ∷ []) r) ∙ below ReadsCode 32 c control_codes (grind (arith, p)) r)
    plain false true p q e f g =
        let same : 127 ≡ c = sym (same_number c 127 q) in
        rw (e, f, g, p, q) (ap (λ t. part 39 (92 ∷ 120 ∷ t)) (append_assoc (hexadecimal c) (92 ∷ []) r) ∙ subst ReadsCode same delete_code r)
    plain false false p q e f g = rw (e, f, g, p, q) (rw (f, e, g) refl)

    feed : (b : Bool) → (c == 10) ≡ b → (c == 92) ≡ false → (c == 39) ≡ false → part 39 (escaped_char c ++ r) ≡ StandsFor c r
    feed true q e f = let same : 10 ≡ c = sym (same_number c 10 q) in subst (λ d. part 39 (escaped_char d ++ r) ≡ StandsFor d r) same refl
    feed false q e f = plain (nat_lt c 32) (c == 127) refl refl e f q

    named : (a b : Bool) → (c == 92) ≡ a → (c == 39) ≡ b → part 39 (escaped_char c ++ r) ≡ StandsFor c r
    named true b e f = let same : 92 ≡ c = sym (same_number c 92 e) in subst (λ d. part 39 (escaped_char d ++ r) ≡ StandsFor d r) same refl
    named false true e f = let same : 39 ≡ c = sym (same_number c 39 f) in subst (λ d. part 39 (escaped_char d ++ r) ≡ StandsFor d r) same refl
    named false false e f = feed (c == 10) refl e f

pub quoted_again : (n z : List ℕ) → first_is 39 z ≡ false → quoted 39 (escaped_chars n ++ 39 ∷ z) ≡ QuotedThen n z
quoted_again [] z e = quoted-part 39 (39 ∷ z) ∙ rw e refl
quoted_again (c ∷ n) z e =
    ap (quoted 39) (append_assoc (escaped_char c) (escaped_chars n) (39 ∷ z))
    ∙ (quoted-stands 39 c (escaped_char c ++ (escaped_chars n ++ 39 ∷ z)) (escaped_chars n ++ 39 ∷ z) (char_read c (escaped_chars n ++ 39 ∷ z))
    ∙ ap (with_characters (c ∷ [])) (quoted_again n z e))

pub quoted_rescans : (n z : List ℕ) → first_is 39 z ≡ false → Rescans (QuotedName n) z
quoted_rescans n z e =
    let assoc : (39 ∷ escaped_chars n ++ 39 ∷ []) ++ z ≡ 39 ∷ (escaped_chars n ++ 39 ∷ z) = append_assoc (39 ∷ escaped_chars n) (39 ∷ []) z in
    record {
      word = ap word_at_front assoc ∙ ap (quoted_word QuotedWord (39 ∷ (escaped_chars n ++ 39 ∷ z))) (quoted_again n z e);
      bare = ap layout_item assoc ∙ no_layout 39 (escaped_chars n ++ 39 ∷ z) refl refl refl;
    }

-- the first digit of a number
pub record FirstDigit (cs : List ℕ) : Type 0 where
  pub part : first_passes is_alphanumeric cs ≡ true
  pub symbol : first_passes is_symbol cs ≡ false
  pub single : first_is 39 cs ≡ false
  pub point : first_is 46 cs ≡ false

pub digit_first : (ds z : List ℕ) → 0 < length ds → all_ascii_digits ds ≡ true → FirstDigit (ds ++ z)
digit_first [] z lt e = absurd (omega arith)
digit_first (d ∷ ds) z lt e =
    let m = digit_mark d (and_left (is_ascii_digit d) _ e) in
    let last = or_right (d == 98) _ (or_right (d == 111) _ (or_right (d == 120) _ m.base)) in
    record { part = m.part; symbol = m.symbol; single = last; point = m.point }
