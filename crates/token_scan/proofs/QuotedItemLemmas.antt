-- Quoted items part by part.
use Rattle.std.proofs.Common.{◌≡◌, ◌∙◌, ℕ, zero, suc, ◌≤◌, ◌<◌, Bool, true, false, ◌&&◌, ◌==◌, List, [], ◌∷◌, ◌++◌, length, Option, Some, None, refl, sym, ap, arith, length-drop, append_assoc, append-nil, subst, IsSome}
use lib.Utf8.{encode}
use Rattle.std.specs.Char.{IsScalar}
use Rattle.std.specs.Str.{IsUtf8, chars}
use Rattle.std.proofs.lemmas.Str.{chars-append, chars-nil, chars_past_char, IsUtf8-encode}
use Rattle.au_model.specs.Syntax.Characters.{is_digit_of, first_is, after_run}
use Rattle.au_model.specs.Syntax.Quoted.{Part, StandsFor, StandsForNothing, ClosingQuote, NoEscape, CutOff, named_escape, named_part, numbered_part, numbered_escape, escape, part, Quoted, QuotedThen, WrongEscape, NeverClosed, with_characters, after_part, quoted_parts, quoted}
use Rattle.token_scan.specs.ScannedParts.{quoted_rest}
use Rattle.token_scan.proofs.RunLemmas.{length-after_run}

-- what is left after a part is shorter
abbrev pub EndsWithin : ℕ → Part → Type 0
EndsWithin n (StandsFor d rest) = length rest < n
EndsWithin n (StandsForNothing rest) = length rest < n
EndsWithin n (ClosingQuote rest) = length rest < n
EndsWithin n NoEscape = Unit {0}
EndsWithin n CutOff = Unit {0}

named-within : (o : Option ℕ) (n : ℕ) (cs : List ℕ) → length cs < n → EndsWithin n (named_part o cs)
named-within (Some d) n cs l = l
named-within None n cs l = tt

numbered_part-within : (b : Bool) (d n : ℕ) (cs : List ℕ) → length cs ≤ n → EndsWithin n (numbered_part b d cs)
numbered_part-within b d n [] l = tt
numbered_part-within b d n (c ∷ cs) l = feed (c == 10) refl where
  sign : (t : Bool) → (b && (c == 92)) ≡ t → (c == 10) ≡ false → EndsWithin n (numbered_part b d (c ∷ cs))
  sign true e f = rw (f, e) (omega arith)
  sign false e f = rw (f, e) tt

  feed : (t : Bool) → (c == 10) ≡ t → EndsWithin n (numbered_part b d (c ∷ cs))
  feed true e = rw e tt
  feed false e = sign (b && (c == 92)) refl e

numbered-within : (base n : ℕ) (cs : List ℕ) → length cs ≤ n → EndsWithin n (numbered_escape base cs)
numbered-within base n cs l = numbered_part-within _ _ n (after_run (is_digit_of base) cs) (omega (arith, length-after_run (is_digit_of base) cs))

pub escape-within : (n : ℕ) (cs : List ℕ) → length cs ≤ n → EndsWithin n (escape cs)
escape-within n [] l = tt
escape-within n (c ∷ cs) l = feed (c == 10) refl where
  octal : (t : Bool) → is_digit_of 8 c ≡ t → (c == 10) ≡ false → (c == 120) ≡ false → EndsWithin n (escape (c ∷ cs))
  octal true e f x = rw (f, x, e) (numbered_part-within _ _ n (after_run (is_digit_of 8) cs) (omega (arith, length-after_run (is_digit_of 8) cs)))
  octal false e f x = rw (f, x, e) (named-within (named_escape c) n cs (omega arith))

  hex : (t : Bool) → (c == 120) ≡ t → (c == 10) ≡ false → EndsWithin n (escape (c ∷ cs))
  hex true e f = rw (f, e) (numbered-within 16 n cs (omega arith))
  hex false e f = octal (is_digit_of 8 c) refl f e

  feed : (t : Bool) → (c == 10) ≡ t → EndsWithin n (escape (c ∷ cs))
  feed true e = rw e (omega arith)
  feed false e = hex (c == 120) refl e

pub part-within : (q n : ℕ) (cs : List ℕ) → length cs ≤ n → EndsWithin n (part q cs)
part-within q n [] l = tt
part-within q n (c ∷ cs) l = quote (c == q) refl where
  feed : (t : Bool) → (c == 10) ≡ t → (c == q) ≡ false → (c == 92) ≡ false → EndsWithin n (part q (c ∷ cs))
  feed true e f g = rw (f, g, e) tt
  feed false e f g = rw (f, g, e) (omega arith)

  sign : (t : Bool) → (c == 92) ≡ t → (c == q) ≡ false → EndsWithin n (part q (c ∷ cs))
  sign true e f = rw (f, e) (escape-within n cs (omega arith))
  sign false e f = feed (c == 10) refl f e

  doubled : (t : Bool) → first_is q cs ≡ t → (c == q) ≡ true → EndsWithin n (part q (c ∷ cs))
  doubled true e f = rw (f, e) (omega (arith, length-drop 1 cs))
  doubled false e f = rw (f, e) (omega arith)

  quote : (t : Bool) → (c == q) ≡ t → EndsWithin n (part q (c ∷ cs))
  quote true e = doubled (first_is q cs) refl e
  quote false e = sign (c == 92) refl e

-- more parts than characters make no difference
enough : (q m n : ℕ) (cs : List ℕ) → length cs ≤ m → length cs ≤ n → quoted_parts m q cs ≡ quoted_parts n q cs
enough q zero zero cs a b = refl
enough q zero (suc n) [] a b = refl
enough q zero (suc n) (c ∷ cs) a b = absurd (omega arith)
enough q (suc m) zero [] a b = refl
enough q (suc m) zero (c ∷ cs) a b = absurd (omega arith)
enough q (suc m) (suc n) cs a b = go (part q cs) refl (part-within q (length cs) cs (omega arith)) (enough q m n) where
  go : (p : Part) → part q cs ≡ p → EndsWithin (length cs) (part q cs) → ((ds : List ℕ) → length ds ≤ m → length ds ≤ n → quoted_parts m q ds ≡ quoted_parts n q ds)
      → quoted_parts (suc m) q cs ≡ quoted_parts (suc n) q cs
  go (StandsFor d rest) e w more = let l = rw e at w in rw e (ap (with_characters (d ∷ [])) (more rest (omega arith) (omega arith)))
  go (StandsForNothing rest) e w more = let l = rw e at w in rw e (more rest (omega arith) (omega arith))
  go (ClosingQuote rest) e w more = rw e
  go NoEscape e w more = rw e
  go CutOff e w more = rw e

-- a part, and then the rest
one_part : (q n : ℕ) (cs : List ℕ) → n ≡ length cs → quoted_parts n q cs ≡ after_part (quoted q) cs (part q cs)
unfolding quoted
one_part q zero [] h = refl
one_part q zero (c ∷ cs) h = absurd (omega arith)
one_part q (suc n) cs h = go (part q cs) refl (part-within q (length cs) cs (omega arith)) where
  go : (p : Part) → part q cs ≡ p → EndsWithin (length cs) (part q cs) → quoted_parts (suc n) q cs ≡ after_part (quoted q) cs (part q cs)
  go (StandsFor d rest) e w = let l = rw e at w in rw e (ap (with_characters (d ∷ [])) (enough q n (length rest) rest (omega arith) (omega arith)))
  go (StandsForNothing rest) e w = let l = rw e at w in rw e (enough q n (length rest) rest (omega arith) (omega arith))
  go (ClosingQuote rest) e w = rw e
  go NoEscape e w = rw e
  go CutOff e w = rw e

pub quoted-part : (q : ℕ) (cs : List ℕ) → quoted q cs ≡ after_part (quoted q) cs (part q cs)
unfolding quoted
quoted-part q cs = one_part q (length cs) cs refl

pub with_characters-append : (xs ys : List ℕ) (e : Quoted) → with_characters xs (with_characters ys e) ≡ with_characters (xs ++ ys) e
with_characters-append xs ys (QuotedThen cs rest) = ap (λ zs. QuotedThen zs rest) (sym (append_assoc xs ys cs))
with_characters-append xs ys (WrongEscape from) = refl
with_characters-append xs ys NeverClosed = refl

pub with_characters-none : (e : Quoted) → with_characters [] e ≡ e
with_characters-none (QuotedThen cs rest) = refl
with_characters-none (WrongEscape from) = refl
with_characters-none NeverClosed = refl

-- what a quoted item's first part leaves of it
pub quoted-stands : (q d : ℕ) (cs rest : List ℕ) → part q cs ≡ StandsFor d rest → quoted q cs ≡ with_characters (d ∷ []) (quoted q rest)
quoted-stands q d cs rest e = quoted-part q cs ∙ ap (after_part (quoted q) cs) e

pub quoted-nothing : (q : ℕ) (cs rest : List ℕ) → part q cs ≡ StandsForNothing rest → quoted q cs ≡ quoted q rest
quoted-nothing q cs rest e = quoted-part q cs ∙ ap (after_part (quoted q) cs) e

pub quoted-closes : (q : ℕ) (cs rest : List ℕ) → part q cs ≡ ClosingQuote rest → quoted q cs ≡ QuotedThen [] rest
quoted-closes q cs rest e = quoted-part q cs ∙ ap (after_part (quoted q) cs) e

pub quoted-wrong : (q : ℕ) (cs : List ℕ) → part q cs ≡ NoEscape → quoted q cs ≡ WrongEscape cs
quoted-wrong q cs e = quoted-part q cs ∙ ap (after_part (quoted q) cs) e

pub quoted-cut : (q : ℕ) (cs : List ℕ) → part q cs ≡ CutOff → quoted q cs ≡ NeverClosed
quoted-cut q cs e = quoted-part q cs ∙ ap (after_part (quoted q) cs) e

-- the characters so far, and those of the rest
pub record Gone (q : ℕ) (start : List ℕ) (done here : List ℕ) : Type 0 where
  pub is : quoted q start ≡ with_characters done (quoted q here)

pub gone-start : (q : ℕ) (cs : List ℕ) → Gone q cs [] cs
gone-start q cs = record { is = sym (with_characters-none (quoted q cs)) }

pub gone-character : (q d : ℕ) (start done here rest : List ℕ) → Gone q start done here → part q here ≡ StandsFor d rest → Gone q start (done ++ (d ∷ [])) rest
gone-character q d start done here rest g e =
    record { is = g.is ∙ (ap (with_characters done) (quoted-stands q d here rest e) ∙ with_characters-append done (d ∷ []) (quoted q rest)) }

pub gone-nothing : (q : ℕ) (start done here rest : List ℕ) → Gone q start done here → part q here ≡ StandsForNothing rest → Gone q start done rest
gone-nothing q start done here rest g e = record { is = g.is ∙ ap (with_characters done) (quoted-nothing q here rest e) }

pub gone-closes : (q : ℕ) (start done here rest : List ℕ) → Gone q start done here → part q here ≡ ClosingQuote rest → quoted q start ≡ QuotedThen done rest
gone-closes q start done here rest g e =
    g.is ∙ (ap (with_characters done) (quoted-closes q here rest e) ∙ ap (λ cs. QuotedThen cs rest) (append-nil done))

pub gone-wrong : (q : ℕ) (start done here : List ℕ) → Gone q start done here → part q here ≡ NoEscape → quoted q start ≡ WrongEscape here
gone-wrong q start done here g e = g.is ∙ ap (with_characters done) (quoted-wrong q here e)

pub gone-cut : (q : ℕ) (start done here : List ℕ) → Gone q start done here → part q here ≡ CutOff → quoted q start ≡ NeverClosed
gone-cut q start done here g e = g.is ∙ ap (with_characters done) (quoted-cut q here e)

some_none : IsSome {T = List ℕ} None → ⊥
some_none h = cc

-- a closed item has no part that is wrong or cut off
pub closed-wrong : (q : ℕ) (start done here : List ℕ) → Gone q start done here → IsSome (quoted_rest (quoted q start)) → part q here ≡ NoEscape → ⊥
closed-wrong q start done here g s e = let n : quoted_rest (quoted q start) ≡ None = ap quoted_rest (gone-wrong q start done here g e) in let f : IsSome {T = List ℕ} None = subst IsSome n s in absurd (some_none f)

pub closed-cut : (q : ℕ) (start done here : List ℕ) → Gone q start done here → IsSome (quoted_rest (quoted q start)) → part q here ≡ CutOff → ⊥
closed-cut q start done here g s e = let n : quoted_rest (quoted q start) ≡ None = ap quoted_rest (gone-cut q start done here g e) in let f : IsSome {T = List ℕ} None = subst IsSome n s in absurd (some_none f)

-- a character after a text
pub chars-put : (bs : List ℕ) (c : ℕ) → IsUtf8 bs → IsScalar c → chars (bs ++ encode c) ≡ chars bs ++ (c ∷ [])
chars-put bs c u s =
    let one : chars (encode c) ≡ c ∷ [] = chars_past_char (encode c) [] c (IsUtf8-encode c s) (sym (append-nil (encode c))) ∙ ap (λ cs. c ∷ cs) chars-nil in
    chars-append bs (encode c) u ∙ ap (λ cs. chars bs ++ cs) one
