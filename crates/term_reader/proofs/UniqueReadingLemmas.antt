-- There is at most one such reading.
use Rattle.std.proofs.Common.{◌≡◌, ℕ, Bool, List, ◌∷◌, refl, sym, ap}
use Rattle.au_model.specs.Syntax.Tokens.{Token, token, Close, CloseList, Comma, Bar}
use Rattle.au_model.specs.Syntax.Trees.{Tree, Trees, no_trees, more_trees, CompoundTree, AtomTree, one, two, cell}
use Rattle.au_model.specs.Terms.Forms.{nil_name, braces_name}
use Rattle.au_model.specs.Syntax.Primaries.{Setting, Primary}
use Rattle.au_model.specs.Syntax.Spelling.{Operand}
use Rattle.term_reader.specs.LeftToRight.{NextOperator, next_operator, ReadsOperand, whole, ReadsRest, stop, on_infix, on_postfix, ReadsPrimary, leaf, bracket, curly, listed, called, prefixed, ReadsItems, last, barred, item, ReadsArguments, final, argument}
use Rattle.term_reader.proofs.SpellingIsReadingLemmas.{whole_of}

moved : {s : Setting} (bound : ℕ) {us us' vs : List Token} {l l' t : Tree} {p p' : ℕ} → us ≡ us' → l ≡ l' → p ≡ p'
    → ReadsRest s (next_operator s.ops bound p' us') bound us' l' vs t → ReadsRest s (next_operator s.ops bound p us) bound us l vs t
moved bound e f g r = rw (e, f, g) r

moved_items : {s : Setting} {us us' vs : List Token} {t : Tree} → us ≡ us' → ReadsItems s us' vs t → ReadsItems s us vs t
moved_items e i = rw e i

moved_arguments : {s : Setting} {us us' vs : List Token} {args : Trees} → us ≡ us' → ReadsArguments s us' vs args → ReadsArguments s us vs args
moved_arguments e i = rw e i

moved_whole : {s : Setting} (bound : ℕ) {us us' vs : List Token} {t : Tree} → us ≡ us' → ReadsOperand s bound us' vs t → ReadsOperand s bound us vs t
moved_whole bound e i = rw e i

tails : {x y : Token} {us vs : List Token} → x ∷ us ≡ y ∷ vs → us ≡ vs
tails e = cc

last_barred : {a b : Bool} {us vs : List Token} → token a CloseList ∷ us ≡ token b Bar ∷ vs → ⊥
last_barred e = cc

last_item : {a b : Bool} {us vs : List Token} → token a CloseList ∷ us ≡ token b Comma ∷ vs → ⊥
last_item e = cc

barred_item : {a b : Bool} {us vs : List Token} → token a Bar ∷ us ≡ token b Comma ∷ vs → ⊥
barred_item e = cc

final_argument : {a b : Bool} {us vs : List Token} → token a Close ∷ us ≡ token b Comma ∷ vs → ⊥
final_argument e = cc

mutual
  pub same_whole : {s : Setting} {bound : ℕ} {ts us us' : List Token} {t t' : Tree} → ReadsOperand s bound ts us t → ReadsOperand s bound ts us' t' → (us ≡ us') × (t ≡ t')
  same_whole {bound = bound} (whole f le r) (whole g le' q) =
      let e = same_begun f g in same_rest r (moved bound e.0 e.1 e.2 q)

  pub same_rest : {s : Setting} {k : NextOperator} {bound : ℕ} {us vs vs' : List Token} {l t t' : Tree}
      → ReadsRest s k bound us l vs t → ReadsRest s k bound us l vs' t' → (vs ≡ vs') × (t ≡ t')
  same_rest stop stop = (refl, refl)
  same_rest {bound = bound} (on_infix {l = l} {n = n} w r) (on_infix w' q) =
      let e = same_whole w w' in same_rest r (moved bound e.0 (ap (λ x. two n l x) e.1) refl q)
  same_rest (on_postfix r) (on_postfix q) = same_rest r q

  pub same_begun : {s : Setting} {k : Primary} {us us' : List Token} {t t' : Tree} {p p' : ℕ}
      → ReadsPrimary s k us t p → ReadsPrimary s k us' t' p' → (us ≡ us') × (t ≡ t') × (p ≡ p')
  same_begun leaf leaf = (refl, refl, refl)
  same_begun (bracket w) (bracket w') = let e = same_whole w w' in (tails e.0, e.1, refl)
  same_begun (curly w) (curly w') = let e = same_whole w w' in (tails e.0, ap (λ x. one braces_name x) e.1, refl)
  same_begun (listed i) (listed i') = let e = same_items i i' in (e.0, e.1, refl)
  same_begun (called {n = n} i le) (called i' le') = let e = same_arguments i i' in (e.0, ap (λ x. CompoundTree n x) e.1, refl)
  same_begun (prefixed {n = n} w) (prefixed w') = let e = same_whole w w' in (e.0, ap (λ x. one n x) e.1, refl)

  pub same_items : {s : Setting} {ts us us' : List Token} {t t' : Tree} → ReadsItems s ts us t → ReadsItems s ts us' t' → (us ≡ us') × (t ≡ t')
  same_items (last w) (last w') = let e = same_whole w w' in (tails e.0, ap (λ x. cell x (AtomTree nil_name)) e.1)
  same_items (last w) (barred w' x') = absurd (last_barred (same_whole w w').0)
  same_items (last w) (item w' i') = absurd (last_item (same_whole w w').0)
  same_items (barred w x) (last w') = absurd (last_barred (sym (same_whole w w').0))
  same_items (barred w x) (barred w' x') =
      let e = same_whole w w' in
      let f = same_whole x (moved_whole 999 (tails e.0) x') in (tails f.0, cc)
  same_items (barred w x) (item w' i') = absurd (barred_item (same_whole w w').0)
  same_items (item w i) (last w') = absurd (last_item (sym (same_whole w w').0))
  same_items (item w i) (barred w' x') = absurd (barred_item (sym (same_whole w w').0))
  same_items (item w i) (item w' i') =
      let e = same_whole w w' in
      let f = same_items i (moved_items (tails e.0) i') in (f.0, cc)

  pub same_arguments : {s : Setting} {ts us us' : List Token} {t t' : Trees} → ReadsArguments s ts us t → ReadsArguments s ts us' t' → (us ≡ us') × (t ≡ t')
  same_arguments (final w) (final w') = let e = same_whole w w' in (tails e.0, ap (λ x. more_trees x no_trees) e.1)
  same_arguments (final w) (argument w' i') = absurd (final_argument (same_whole w w').0)
  same_arguments (argument w i) (final w') = absurd (final_argument (sym (same_whole w w').0))
  same_arguments (argument w i) (argument w' i') =
      let e = same_whole w w' in
      let f = same_arguments i (moved_arguments (tails e.0) i') in (f.0, cc)

pub same_reading : (s : Setting) (bound : ℕ) (ts us vs : List Token) (t u : Tree) → Operand s bound ts us t → Operand s bound ts vs u → (us ≡ vs) × (t ≡ u)
same_reading s bound ts us vs t u x y = same_whole (whole_of x) (whole_of y)
