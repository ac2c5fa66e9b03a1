-- Numbers read from texts, token by token.
use Rattle.std.proofs.Common.{◌≡◌, ℕ, ◌<◌, ◌≤◌, Bool, true, false, ℤ, cond, List, [], ◌∷◌, length, drop, Option, Some, None, refl, sym, ap, ◌∙◌, subst, arith}
use Rattle.std.specs.Prelude.{MatchOption, codes, option_map, option_and_then}
use Rattle.std.specs.Str.{chars, IsUtf8}
use Rattle.std.proofs.lemmas.Str.{chars-nil, encodes-chars}
use Rattle.std.proofs.lemmas.List.{drop_all}
use Rattle.std.proofs.lemmas.List as lists
use lib.Utf8.{encodes}
use Rattle.au_model.specs.Terms.Forms.{same_name}
use Rattle.au_model.specs.Syntax.Characters.{chars_from}
use Rattle.au_model.specs.Syntax.Layout.{begins_layout}
use Rattle.au_model.specs.Syntax.Words.{Word, NameWord, QuotedWord, VariableWord, IntegerWord, TextWord, MarkWord, StopWord, LastWord, FoundWord, next_word, word_characters, word_number}
use Rattle.token_scan.specs.NextToken.{kind_of, IsTokenFault}
use Rattle.token_scan.specs.declared.token.BadToken.{BadToken}
use Rattle.token_scan.specs.declared.token.TokenKind.TheVariants.{Name, Integer}
use Rattle.run_model.specs.Goals.NumberTexts.{last_integer, without_sign, negated_number, number_after_sign, number_read}
use Rattle.std_builtins.specs.Texts.{unsigned_number}

pub last_found : (w : Word) (rest : List ℕ) → kind_of w ≡ Integer → rest ≡ [] → Some (word_number w) ≡ last_integer w rest
last_found (NameWord cs) rest h e = absurd cc
last_found (QuotedWord cs) rest h e = absurd cc
last_found (VariableWord cs) rest h e = absurd cc
last_found (IntegerWord n) rest h e = rw e refl
last_found (TextWord cs) rest h e = absurd cc
last_found (MarkWord c) rest h e = absurd cc
last_found StopWord rest h e = absurd cc
last_found LastWord rest h e = absurd cc

pub more_found : (w : Word) (rest : List ℕ) → (rest ≡ [] → ⊥) → None ≡ last_integer w rest
more_found (NameWord cs) rest h = refl
more_found (QuotedWord cs) rest h = refl
more_found (VariableWord cs) rest h = refl
more_found (IntegerWord n) [] h = absurd (h refl)
more_found (IntegerWord n) (c ∷ cs) h = refl
more_found (TextWord cs) rest h = refl
more_found (MarkWord c) rest h = refl
more_found StopWord rest h = refl
more_found LastWord rest h = refl

pub chars_over : (text : List ℕ) (at : ℕ) → length text ≤ at → chars_from text at ≡ []
chars_over text at le = ap chars (drop_all at text le) ∙ chars-nil

pub chars_more : (text : List ℕ) (at : ℕ) → IsUtf8 (drop at text) → at < length text → chars_from text at ≡ [] → ⊥
chars_more text at u lt e =
    let none : drop at text ≡ [] = sym (encodes-chars (drop at text) u) ∙ ap encodes e in
    let n : length (drop at text) ≡ 0 = ap length none in
    omega (arith, lists.length-drop at text)

-- what is found, through an equation
pub as_found : (r o p : Option ℤ) → o ≡ p → MatchOption r (o ≡ None) (λ z. o ≡ Some z) → MatchOption r (p ≡ None) (λ z. p ≡ Some z)
as_found r o p e h = subst (λ q. MatchOption r (q ≡ None) (λ z. q ≡ Some z)) e h

pub sign_read : (w : Word) (rest : List ℕ) → kind_of w ≡ Name → same_name (word_characters w) (codes "-") ≡ true → unsigned_number rest ≡ number_read w rest
sign_read (NameWord cs) rest h e = rw e refl
sign_read (QuotedWord cs) rest h e = absurd cc
sign_read (VariableWord cs) rest h e = absurd cc
sign_read (IntegerWord n) rest h e = absurd cc
sign_read (TextWord cs) rest h e = absurd cc
sign_read (MarkWord c) rest h e = absurd cc
sign_read StopWord rest h e = absurd cc
sign_read LastWord rest h e = absurd cc

pub name_read : (w : Word) (rest : List ℕ) → kind_of w ≡ Name → same_name (word_characters w) (codes "-") ≡ false → number_read w rest ≡ None
name_read (NameWord cs) rest h e = rw e refl
name_read (QuotedWord cs) rest h e = absurd cc
name_read (VariableWord cs) rest h e = absurd cc
name_read (IntegerWord n) rest h e = absurd cc
name_read (TextWord cs) rest h e = absurd cc
name_read (MarkWord c) rest h e = absurd cc
name_read StopWord rest h e = absurd cc
name_read LastWord rest h e = absurd cc

pub other_read : (w : Word) (rest : List ℕ) → (kind_of w ≡ Name → ⊥) → option_and_then without_sign (last_integer w rest) ≡ number_read w rest
other_read (NameWord cs) rest h = absurd (h refl)
other_read (QuotedWord cs) rest h = refl
other_read (VariableWord cs) rest h = refl
other_read (IntegerWord n) rest h = refl
other_read (TextWord cs) rest h = refl
other_read (MarkWord c) rest h = refl
other_read StopWord rest h = refl
other_read LastWord rest h = refl

pub after_read : (cs : List ℕ) (w : Word) (rest : List ℕ) → begins_layout cs ≡ false → next_word cs ≡ FoundWord w rest → option_map negated_number (last_integer w rest) ≡ unsigned_number cs
after_read cs w rest apart is = rw apart (ap number_after_sign (sym is))

pub after_layout_none : (cs : List ℕ) → begins_layout cs ≡ true → unsigned_number cs ≡ None
after_layout_none cs h = rw h refl

pub after_fault : (text : List ℕ) (at : ℕ) (e : BadToken) → IsTokenFault (next_word (chars_from text at)) text at e → unsigned_number (chars_from text at) ≡ None
after_fault text at e h = by (begins_layout (chars_from text at))
  where
    by : (b : Bool) → cond b None (number_after_sign (next_word (chars_from text at))) ≡ None
    by true = refl
    by false = ap number_after_sign h.fault
