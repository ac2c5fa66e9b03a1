-- Lines and columns after one more character.
use Rattle.std.proofs.Common.{◌≡◌, ◌∙◌, ℕ, suc, ◌+◌, ◌-◌, ◌^◌, Bool, true, false, ◌==◌, min, List, [], ◌∷◌, ◌++◌, length, reverse, take, drop, refl, sym, ap, arith, IsCharBoundary, if◌then◌else◌}
use Rattle.std.proofs.lemmas.List.{reverse-append, take-append-drop}
use Rattle.std.proofs.lemmas.Str.{chars-append, IsUtf8-take}
use Rattle.std.specs.Str.{chars, IsUtf8}
use Rattle.au_model.specs.Syntax.Characters.{chars_from, is_in_line, run}
use Rattle.au_model.specs.Syntax.TextFaults.{line_feeds, line_after, column_after, IsLineAndColumn}

feeds-more : (ys : List ℕ) (c : ℕ) → (c == 10) ≡ true → line_feeds (ys ++ c ∷ []) ≡ suc (line_feeds ys)
feeds-more [] c e = rw e refl
feeds-more (y ∷ ys) c e = go (y == 10) (feeds-more ys c e) where
  go : (b : Bool) → line_feeds (ys ++ c ∷ []) ≡ suc (line_feeds ys) → (if b then suc (line_feeds (ys ++ c ∷ [])) else line_feeds (ys ++ c ∷ [])) ≡ suc (if b then suc (line_feeds ys) else line_feeds ys)
  go true h = ap suc h
  go false h = h

feeds-same : (ys : List ℕ) (c : ℕ) → (c == 10) ≡ false → line_feeds (ys ++ c ∷ []) ≡ line_feeds ys
feeds-same [] c e = rw e refl
feeds-same (y ∷ ys) c e = go (y == 10) (feeds-same ys c e) where
  go : (b : Bool) → line_feeds (ys ++ c ∷ []) ≡ line_feeds ys → (if b then suc (line_feeds (ys ++ c ∷ [])) else line_feeds (ys ++ c ∷ [])) ≡ (if b then suc (line_feeds ys) else line_feeds ys)
  go true h = ap suc h
  go false h = h

last : (ys : List ℕ) (c : ℕ) → run is_in_line (reverse (ys ++ c ∷ [])) ≡ run is_in_line (c ∷ reverse ys)
last ys c = ap (run is_in_line) (reverse-append ys (c ∷ []))

pub line-more : (ys : List ℕ) (c : ℕ) → (c == 10) ≡ true → line_after (ys ++ c ∷ []) ≡ min (line_after ys + 1) (2 ^ 32 - 1)
line-more ys c e = let h = feeds-more ys c e in omega arith

pub line-same : (ys : List ℕ) (c : ℕ) → (c == 10) ≡ false → line_after (ys ++ c ∷ []) ≡ line_after ys
line-same ys c e = ap (λ n. min (1 + n) (2 ^ 32 - 1)) (feeds-same ys c e)

pub column-first : (ys : List ℕ) (c : ℕ) → (c == 10) ≡ true → column_after (ys ++ c ∷ []) ≡ 1
column-first ys c e = ap (λ cs. min (1 + length cs) (2 ^ 32 - 1)) (last ys c) ∙ rw e refl

pub column-more : (ys : List ℕ) (c : ℕ) → (c == 10) ≡ false → column_after (ys ++ c ∷ []) ≡ min (column_after ys + 1) (2 ^ 32 - 1)
column-more ys c e =
    let h : run is_in_line (c ∷ reverse ys) ≡ c ∷ run is_in_line (reverse ys) = rw e refl in
    let n = ap length (last ys c ∙ h) in
    omega arith

pub place : (text : List ℕ) (at line column : ℕ) (before : List ℕ) → IsUtf8 text → IsCharBoundary text at → before ≡ chars (take at text) → line ≡ line_after before → column ≡ column_after before → IsLineAndColumn text (chars_from text at) line column
place text at line column before u b e l m = record {
  before = before;
  splits = ap chars (sym (take-append-drop at text)) ∙ (chars-append (take at text) (drop at text) (IsUtf8-take text at u b) ∙ ap (λ cs. cs ++ chars_from text at) (sym e));
  line_is = l;
  column_is = m;
}
