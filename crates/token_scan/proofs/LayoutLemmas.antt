-- Layout item by item.
use Rattle.std.proofs.Common.{◌≡◌, ◌∙◌, ℕ, zero, suc, ◌≤◌, ◌<◌, nat_lt, Bool, true, false, ◌&&◌, ◌==◌, List, [], ◌∷◌, length, drop, slice_get, Option, Some, None, refl, sym, ap, arith, length-drop}
use Rattle.std.specs.Str.{IsUtf8, IsCharBoundary}
use Rattle.std.proofs.lemmas.Bool.{lt-ltb, le-ltb}
use Rattle.au_model.specs.Syntax.Characters.{is_blank, is_in_line, first_is, after_run, chars_from}
use Rattle.au_model.specs.Syntax.Layout.{LayoutItem, ItemThen, NotClosed, NoLayout, comment_item, layout_item, after_comment, GapThen, GapNotClosed, after_layout_item, after_layout_items, after_layout, begins_layout, is_layout}
use Rattle.token_scan.proofs.RunLemmas.{length-after_run, none_left, one_place}

after_comment-shorter : (cs rest : List ℕ) → after_comment cs ≡ Some rest → length rest < length cs
after_comment-shorter [] rest e = let f : ⊥ = cc in absurd f
after_comment-shorter (c ∷ cs) rest e = go ((c == 42) && first_is 47 cs) refl (after_comment-shorter cs rest) where
  go : (b : Bool) → ((c == 42) && first_is 47 cs) ≡ b → (after_comment cs ≡ Some rest → length rest < length cs) → length rest < length (c ∷ cs)
  go true h more = let k = rw h at e in let same : drop 1 cs ≡ rest = cc in omega (arith, ap length same, length-drop 1 cs)
  go false h more = let k = rw h at e in let l = more k in omega arith

comment-shorter : (o : Option (List ℕ)) (rest : List ℕ) → comment_item o ≡ ItemThen rest → o ≡ Some rest
comment-shorter (Some r) rest e = let same : r ≡ rest = cc in ap Some same
comment-shorter None rest e = let f : ⊥ = cc in absurd f

-- an item takes a character
item-shorter : (cs rest : List ℕ) → layout_item cs ≡ ItemThen rest → length rest < length cs
item-shorter [] rest e = let f : ⊥ = cc in absurd f
item-shorter (c ∷ cs) rest e = blank (is_blank c) refl where
  comment : (b : Bool) → ((c == 47) && first_is 42 cs) ≡ b → is_blank c ≡ false → (c == 37) ≡ false → length rest < length (c ∷ cs)
  comment true h n m =
      let k : comment_item (after_comment (drop 1 cs)) ≡ ItemThen rest = rw (n, m, h) at e in
      let l = after_comment-shorter (drop 1 cs) rest (comment-shorter (after_comment (drop 1 cs)) rest k) in omega (arith, length-drop 1 cs)
  comment false h n m = let k = rw (n, m, h) at e in let f : ⊥ = cc in absurd f

  line : (b : Bool) → (c == 37) ≡ b → is_blank c ≡ false → length rest < length (c ∷ cs)
  line true h n = let k = rw (n, h) at e in let same : after_run is_in_line cs ≡ rest = cc in omega (arith, ap length same, length-after_run is_in_line cs)
  line false h n = comment ((c == 47) && first_is 42 cs) refl n h

  blank : (b : Bool) → is_blank c ≡ b → length rest < length (c ∷ cs)
  blank true h = let k = rw h at e in let same : cs ≡ rest = cc in omega (arith, ap length same)
  blank false h = line (c == 37) refl h

-- more items than characters make no difference
enough : (m n : ℕ) (cs : List ℕ) → length cs ≤ m → length cs ≤ n → after_layout_items m cs ≡ after_layout_items n cs
enough zero zero cs a b = refl
enough zero (suc n) [] a b = refl
enough zero (suc n) (c ∷ cs) a b = absurd (omega arith)
enough (suc m) zero [] a b = refl
enough (suc m) zero (c ∷ cs) a b = absurd (omega arith)
enough (suc m) (suc n) cs a b = go (layout_item cs) refl (enough m n) where
  go : (i : LayoutItem) → layout_item cs ≡ i → ((ds : List ℕ) → length ds ≤ m → length ds ≤ n → after_layout_items m ds ≡ after_layout_items n ds)
      → after_layout_items (suc m) cs ≡ after_layout_items (suc n) cs
  go (ItemThen rest) e more = let s = item-shorter cs rest e in rw e (more rest (omega arith) (omega arith))
  go NotClosed e more = rw e
  go NoLayout e more = rw e

-- an item, and then the rest
one_item : (n : ℕ) (cs : List ℕ) → n ≡ length cs → after_layout_items n cs ≡ after_layout_item after_layout cs (layout_item cs)
unfolding after_layout
one_item zero [] h = refl
one_item zero (c ∷ cs) h = absurd (omega arith)
one_item (suc n) cs h = go (layout_item cs) refl where
  go : (i : LayoutItem) → layout_item cs ≡ i → after_layout_items (suc n) cs ≡ after_layout_item after_layout cs (layout_item cs)
  go (ItemThen rest) e = let s = item-shorter cs rest e in rw e (enough n (length rest) rest (omega arith) (omega arith))
  go NotClosed e = rw e
  go NoLayout e = rw e

pub after_layout-item : (cs : List ℕ) → after_layout cs ≡ after_layout_item after_layout cs (layout_item cs)
unfolding after_layout
after_layout-item cs = one_item (length cs) cs refl

-- what is left after layout is no longer than the text
items-within : (n : ℕ) (cs rest : List ℕ) → after_layout_items n cs ≡ GapThen rest → length rest ≤ length cs
items-within zero cs rest e = let same : cs ≡ rest = cc in omega (arith, ap length same)
items-within (suc n) cs rest e = go (layout_item cs) refl (items-within n) where
  go : (i : LayoutItem) → layout_item cs ≡ i → ((ds es : List ℕ) → after_layout_items n ds ≡ GapThen es → length es ≤ length ds) → length rest ≤ length cs
  go (ItemThen ds) h more = let s = item-shorter cs ds h in let k = more ds rest (rw h at e) in omega arith
  go NotClosed h more = let k = rw h at e in let f : ⊥ = cc in absurd f
  go NoLayout h more = let k = rw h at e in let same : cs ≡ rest = cc in omega (arith, ap length same)

-- and begins with no layout
items-longest : (n : ℕ) (cs rest : List ℕ) → length cs ≤ n → after_layout_items n cs ≡ GapThen rest → begins_layout rest ≡ false
items-longest zero [] rest l e = let same : [] ≡ rest = cc in rw (sym same) refl
items-longest zero (c ∷ cs) rest l e = absurd (omega arith)
items-longest (suc n) cs rest l e = go (layout_item cs) refl (items-longest n) where
  go : (i : LayoutItem) → layout_item cs ≡ i → ((ds es : List ℕ) → length ds ≤ n → after_layout_items n ds ≡ GapThen es → begins_layout es ≡ false) → begins_layout rest ≡ false
  go (ItemThen ds) h more = let s = item-shorter cs ds h in more ds rest (omega arith) (rw h at e)
  go NotClosed h more = let k = rw h at e in let f : ⊥ = cc in absurd f
  go NoLayout h more = let k = rw h at e in let same : cs ≡ rest = cc in rw (sym same) (ap is_layout h)

pub layout-longest : (cs rest : List ℕ) → after_layout cs ≡ GapThen rest → begins_layout rest ≡ false
unfolding after_layout
layout-longest cs rest e = items-longest (length cs) cs rest (omega arith) e

pub layout-within : (cs rest : List ℕ) → after_layout cs ≡ GapThen rest → length rest ≤ length cs
unfolding after_layout
layout-within cs rest e = items-within (length cs) cs rest e

layout-shorter : (cs rest : List ℕ) → begins_layout cs ≡ true → after_layout cs ≡ GapThen rest → length rest < length cs
layout-shorter cs rest b e = go (layout_item cs) refl where
  go : (i : LayoutItem) → layout_item cs ≡ i → length rest < length cs
  go (ItemThen ds) h =
      let s = item-shorter cs ds h in
      let k : after_layout ds ≡ GapThen rest = ap (after_layout_item after_layout cs) (sym h) ∙ (sym (after_layout-item cs) ∙ e) in
      let l = layout-within ds rest k in omega arith
  go NotClosed h = let k : GapNotClosed cs ≡ GapThen rest = ap (after_layout_item after_layout cs) (sym h) ∙ (sym (after_layout-item cs) ∙ e) in let f : ⊥ = cc in absurd f
  go NoLayout h = let k = rw h at b in let f : ⊥ = cc in absurd f

no_layout : (cs rest : List ℕ) → begins_layout cs ≡ false → after_layout cs ≡ GapThen rest → cs ≡ rest
no_layout cs rest b e = go (layout_item cs) refl where
  go : (i : LayoutItem) → layout_item cs ≡ i → cs ≡ rest
  go (ItemThen ds) h = let k = rw h at b in let f : ⊥ = cc in absurd f
  go NotClosed h = let k = rw h at b in let f : ⊥ = cc in absurd f
  go NoLayout h = let k : GapThen cs ≡ GapThen rest = ap (after_layout_item after_layout cs) (sym h) ∙ (sym (after_layout-item cs) ∙ e) in cc

-- layout is before a token just where the token is further on
pub layout-before : (text : List ℕ) (at start : ℕ) → IsUtf8 text → IsCharBoundary text at → IsCharBoundary text start → at ≤ start
    → after_layout (chars_from text at) ≡ GapThen (chars_from text start) → nat_lt at start ≡ begins_layout (chars_from text at)
layout-before text at start u i j l e = go (begins_layout (chars_from text at)) refl where
  go : (b : Bool) → begins_layout (chars_from text at) ≡ b → nat_lt at start ≡ begins_layout (chars_from text at)
  go true h =
      let s = layout-shorter (chars_from text at) (chars_from text start) h e in
      let apart : at ≡ start → ⊥ = (λ (k : at ≡ start). let same = ap (λ n. length (chars_from text n)) k in let f : ⊥ = omega arith in f) in
      let lt : at < start = omega arith in
      rw h (lt-ltb at start lt)
  go false h =
      let same : at ≡ start = one_place text at start u i j (no_layout (chars_from text at) (chars_from text start) h e) in
      rw h (le-ltb at start (omega arith))

step : (cs : List ℕ) (i : LayoutItem) → layout_item cs ≡ i → after_layout cs ≡ after_layout_item after_layout cs i
step cs i e = after_layout-item cs ∙ ap (after_layout_item after_layout cs) e

-- the same by the first characters
pub layout-blank : {cs ds : List ℕ} {c : ℕ} → cs ≡ c ∷ ds → is_blank c ≡ true → after_layout cs ≡ after_layout ds
layout-blank {cs = cs} {ds = ds} {c = c} q p = ap after_layout q ∙ step (c ∷ ds) (ItemThen ds) (rw p)

pub layout-line : {cs ds rest : List ℕ} {c : ℕ} → cs ≡ c ∷ ds → c ≡ 37 → rest ≡ after_run is_in_line ds → after_layout cs ≡ after_layout rest
layout-line {ds = ds} q p r = ap after_layout (q ∙ ap (λ k. k ∷ ds) p) ∙ (step (37 ∷ ds) (ItemThen (after_run is_in_line ds)) refl ∙ ap after_layout (sym r))

pub layout-comment : {cs ds fs rest : List ℕ} {c : ℕ} → cs ≡ c ∷ ds → c ≡ 47 → ds ≡ 42 ∷ fs → after_comment fs ≡ Some rest → after_layout cs ≡ after_layout rest
layout-comment {ds = ds} {fs = fs} {rest = rest} q p r b =
    ap after_layout (q ∙ (ap (λ k. k ∷ ds) p ∙ ap (λ es. 47 ∷ es) r)) ∙ step (47 ∷ (42 ∷ fs)) (ItemThen rest) (ap comment_item b)

pub layout-unclosed : {cs ds fs : List ℕ} {c : ℕ} → cs ≡ c ∷ ds → c ≡ 47 → ds ≡ 42 ∷ fs → after_comment fs ≡ None → after_layout cs ≡ GapNotClosed cs
layout-unclosed {cs = cs} {ds = ds} {fs = fs} q p r b =
    let e : cs ≡ 47 ∷ (42 ∷ fs) = q ∙ (ap (λ k. k ∷ ds) p ∙ ap (λ es. 47 ∷ es) r) in
    ap after_layout e ∙ (step (47 ∷ (42 ∷ fs)) NotClosed (ap comment_item b) ∙ ap GapNotClosed (sym e))

pub layout-none : {cs ds : List ℕ} {c : ℕ} → cs ≡ c ∷ ds → is_blank c ≡ false → (c == 37) ≡ false → ((c == 47) && first_is 42 ds) ≡ false → after_layout cs ≡ GapThen cs
layout-none {cs = cs} {ds = ds} {c = c} q a b d = ap after_layout q ∙ (step (c ∷ ds) NoLayout (rw (a, b, d)) ∙ ap GapThen (sym q))

pub layout-end : (cs : List ℕ) → slice_get cs 0 ≡ None → after_layout cs ≡ GapThen cs
layout-end cs h = let e = none_left cs h in rw e (step [] NoLayout refl)
