-- One character at the front of a text, and runs of characters.
use Rattle.std.proofs.Common.{Bool, true, false, None, ◌≡◌, ◌∙◌, ℕ, List, [], ◌∷◌, ◌++◌, Some, length, length-drop, drop, ◌≤◌, slice_get, refl, sym, ap, arith}
use Rattle.std.specs.Str.{IsUtf8, IsCharBoundary, chars}
use Rattle.std.proofs.Math.Utf8.{encode, encodes}
use Rattle.std.proofs.lemmas.Str.{encodes-chars, IsUtf8-drop}
use Rattle.token_scan.specs.ScannerLaws.{IsLongestPrefix}
use Rattle.au_model.specs.Syntax.Characters.{run, after_run, chars_from}

-- the text begins with its first character
pub record BeginsWith (bs : List ℕ) (c : ℕ) : Type 0 where
  pub rest : List ℕ
  pub is : bs ≡ encode c ++ rest

none : {c : ℕ} → slice_get {X = ℕ} [] 0 ≡ Some c → ⊥
none h = cc

some_none : (x : ℕ) (cs : List ℕ) → slice_get (x ∷ cs) 0 ≡ None → ⊥
some_none x cs h = cc

from_chars : (bs cs : List ℕ) (c : ℕ) → encodes cs ≡ bs → slice_get cs 0 ≡ Some c → BeginsWith bs c
from_chars bs [] c e h = absurd (none h)
from_chars bs (x ∷ cs) c e h =
    let same : x ≡ c = cc in
    record { rest = encodes cs; is = sym e ∙ ap (λ k. encode k ++ encodes cs) same }

pub begins : (bs : List ℕ) (c : ℕ) → IsUtf8 bs → slice_get (chars bs) 0 ≡ Some c → BeginsWith bs c
begins bs c u h = from_chars bs (chars bs) c (encodes-chars bs u) h

-- no character is left
pub none_left : (cs : List ℕ) → slice_get cs 0 ≡ None → cs ≡ []
none_left [] h = refl
none_left (x ∷ cs) h = absurd (some_none x cs h)

pub after_run-stops : (p : ℕ → Bool) (cs : List ℕ) (c : ℕ) → slice_get cs 0 ≡ Some c → p c ≡ false → after_run p cs ≡ cs
after_run-stops p [] c h e = refl
after_run-stops p (x ∷ cs) c h e =
    let same : x ≡ c = cc in
    let fails : p x ≡ false = ap p same ∙ e in rw fails

pub after_run-none : (p : ℕ → Bool) (cs : List ℕ) → slice_get cs 0 ≡ None → after_run p cs ≡ cs
after_run-none p cs h = rw (none_left cs h)

pub run-stops : (p : ℕ → Bool) (cs : List ℕ) (c : ℕ) → slice_get cs 0 ≡ Some c → p c ≡ false → run p cs ≡ []
run-stops p [] c h e = refl
run-stops p (x ∷ cs) c h e =
    let same : x ≡ c = cc in
    let fails : p x ≡ false = ap p same ∙ e in rw fails

pub run-none : (p : ℕ → Bool) (cs : List ℕ) → slice_get cs 0 ≡ None → run p cs ≡ []
run-none p cs h = rw (none_left cs h)

pub run-passes : (p : ℕ → Bool) (c : ℕ) (cs : List ℕ) → p c ≡ true → run p (c ∷ cs) ≡ c ∷ run p cs
run-passes p c cs e = rw e

pub after_run-passes : (p : ℕ → Bool) (c : ℕ) (cs : List ℕ) → p c ≡ true → after_run p (c ∷ cs) ≡ after_run p cs
after_run-passes p c cs e = rw e

-- a run and what is left after it are the text
pub run-and_after : (p : ℕ → Bool) (cs : List ℕ) → run p cs ++ after_run p cs ≡ cs
run-and_after p [] = refl
run-and_after p (c ∷ cs) = go (p c) refl (run-and_after p cs) where
  go : (b : Bool) → p c ≡ b → run p cs ++ after_run p cs ≡ cs → run p (c ∷ cs) ++ after_run p (c ∷ cs) ≡ c ∷ cs
  go true e h = rw e (ap (λ ds. c ∷ ds) h)
  go false e h = rw e

pub run-longest : (p : ℕ → Bool) (cs : List ℕ) → IsLongestPrefix p cs (run p cs) (after_run p cs)
run-longest p [] = record { whole = refl; passes = refl; stops = refl }
run-longest p (c ∷ cs) = go (p c) refl (run-longest p cs) where
  go : (b : Bool) → p c ≡ b → IsLongestPrefix p cs (run p cs) (after_run p cs) → IsLongestPrefix p (c ∷ cs) (run p (c ∷ cs)) (after_run p (c ∷ cs))
  go true e h = rw e (record { whole = ap (λ ds. c ∷ ds) h.whole; passes = rw e h.passes; stops = h.stops })
  go false e h = rw e (record { whole = refl; passes = refl; stops = e })

pub length-after_run : (p : ℕ → Bool) (cs : List ℕ) → length (after_run p cs) ≤ length cs
length-after_run p [] = omega arith
length-after_run p (c ∷ cs) = go (p c) refl (length-after_run p cs) where
  go : (b : Bool) → p c ≡ b → length (after_run p cs) ≤ length cs → length (after_run p (c ∷ cs)) ≤ length (c ∷ cs)
  go true e h = rw e (omega arith)
  go false e h = rw e (omega arith)

-- the characters from a place on tell the place
pub one_place : (text : List ℕ) (i j : ℕ) → IsUtf8 text → IsCharBoundary text i → IsCharBoundary text j → chars_from text i ≡ chars_from text j → i ≡ j
one_place text i j u a b e =
    let same : drop i text ≡ drop j text = sym (encodes-chars (drop i text) (IsUtf8-drop text i u a)) ∙ (ap encodes e ∙ encodes-chars (drop j text) (IsUtf8-drop text j u b)) in
    let m : i ≤ length text = a.0 in
    let n : j ≤ length text = b.0 in
    omega (arith, ap length same, length-drop i text, length-drop j text)
