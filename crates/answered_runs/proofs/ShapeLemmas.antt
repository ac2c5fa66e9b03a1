-- The shape of an answer over recoveries.
use Rattle.std.proofs.Common.{◌≡◌, ℕ, zero, suc, ◌+◌, ◌-◌, ◌<◌, ◌≤◌, ◌==◌, Bool, true, false, List, [], ◌∷◌, map, length, take, drop}
use Rattle.std.proofs.Common.{refl, sym, ap, ◌∙◌, subst, arith, ◌&&◌, ◌||◌, not, nat_le, nat_lt}
use Rattle.std.specs.List.{list_all, list_any}
use Rattle.std.proofs.lemmas.Bool.Decides.{nat_tests}
use Rattle.std.proofs.lemmas.List.{length-take-le, length-drop}
use Rattle.au_term.specs.Term.{Term}
use Rattle.au_term.proofs.LogicLemmas.{and-both, and-left, and-right, false_true, le_by, less, none_true, same_number}
use Rattle.run_model.specs.Machine.Items.{Continuation}
use Rattle.run_model.specs.Machine.Entries.{Entry, PlainEntry, CatchEntry, FindallEntry, EndEntry}
use Rattle.tree_model.specs.Shapes.{further, is_guard, cuts_of, is_unsplit, is_alone, fits_nodes, same_sizes, fits_shape}
use Rattle.answered_runs.specs.AnswersAtOnce.{is_recovery, answer_shape, AnswersFit, NoOtherFits}

-- so many nodes of two
abbrev pub twos : ℕ → List ℕ
twos zero = []
twos (suc n) = 2 ∷ twos n

pub map_twos : (es : List Entry) → map (λ e. 2) es ≡ twos (length es)
map_twos [] = refl
map_twos (e ∷ es) = ap (λ sizes. 2 ∷ sizes) (map_twos es)

-- the last of so many recoveries and one
pub record HasLast (m : ℕ) (es : List Entry) : Type 0 where
  pub catcher : Term
  pub recovery : Term
  pub after : Continuation ℕ
  pub last : drop m es ≡ CatchEntry catcher recovery after ∷ []
  pub fewer : length (take m es) ≡ m
  pub recoveries : list_all is_recovery (take m es) ≡ true

pub last_of : (m : ℕ) (es : List Entry) → length es ≡ suc m → list_all is_recovery es ≡ true → HasLast m es
last_of m [] n h = let no_way : ⊥ = omega arith in absurd no_way
last_of m (PlainEntry f ∷ es) n h = false_true h
last_of m (FindallEntry results l f ∷ es) n h = false_true h
last_of m (EndEntry b ∷ es) n h = false_true h
last_of zero (CatchEntry c r f ∷ []) n h = record { catcher = c; recovery = r; after = f; last = refl; fewer = refl; recoveries = refl }
last_of zero (CatchEntry c r f ∷ e ∷ es) n h = let no_way : ⊥ = omega arith in absurd no_way
last_of (suc m) (CatchEntry c r f ∷ es) n h =
    let shorter : length es ≡ suc m = omega arith in
    let k = last_of m es shorter h in
    record {
      catcher = k.catcher;
      recovery = k.recovery;
      after = k.after;
      last = k.last;
      fewer = ap suc k.fewer;
      recoveries = k.recoveries;
    }

none_inside : (low : ℕ) (cuts : List ℕ) → is_unsplit low 2 cuts ≡ true
none_inside low cuts = ap not (go cuts)
  where
    one : (h : ℕ) → (nat_lt low h && nat_lt h (low + 1)) ≡ false
    one h = grind (arith, nat_tests)

    go : (cuts : List ℕ) → list_any (λ h. nat_lt low h && nat_lt h (low + 1)) cuts ≡ false
    go [] = refl
    go (h ∷ cuts) = none_true _ _ (one h) (go cuts)

fits_twos : (n low : ℕ) (cuts : List ℕ) (e : Entry) (es : List Entry) → length es ≡ n → list_all is_recovery es ≡ true
    → fits_nodes low cuts (twos n) (e ∷ es) ≡ true
fits_twos zero low cuts e [] n h = refl
fits_twos zero low cuts e (d ∷ es) n h = let no_way : ⊥ = omega arith in absurd no_way
fits_twos (suc m) low cuts e es n h =
    let k = last_of m es n h in
    let rest : suc m ≡ length (e ∷ es) - 1 = omega (arith, n) in
    let longer : 1 < length (e ∷ es) = omega (arith, n) in
    subst (λ p. (nat_lt 1 (length (e ∷ es)) && (is_alone (drop p (e ∷ es)) && (is_unsplit low 2 cuts && fits_nodes (low + 1) cuts (twos m)
    (take p (e ∷ es))))) ≡ true) rest
    (and-both _ _ (less 1 (length (e ∷ es)) longer) (and-both _ _ (ap is_alone k.last)
    (and-both _ _ (none_inside low cuts) (fits_twos m (low + 1) cuts e (take m es) k.fewer k.recoveries))))

pub answers_fit : AnswersFit
answers_fit low f [] h = refl
answers_fit low f (r ∷ recoveries) h =
    subst (λ sizes. fits_nodes low (cuts_of (PlainEntry f ∷ r ∷ recoveries)) sizes (PlainEntry f ∷ r ∷ recoveries) ≡ true)
    (sym (map_twos (r ∷ recoveries)))
    (fits_twos (length (r ∷ recoveries)) low (cuts_of (PlainEntry f ∷ r ∷ recoveries)) (PlainEntry f) (r ∷ recoveries) refl h)

-- sizes that are the same
same_is : (a b : List ℕ) → same_sizes a b ≡ true → a ≡ b
same_is [] [] h = refl
same_is [] (y ∷ b) h = false_true h
same_is (x ∷ a) [] h = false_true h
same_is (x ∷ a) (y ∷ b) h =
    let here : x ≡ y = same_number x y (and-left (x == y) _ h) in
    let there : a ≡ b = same_is a b (and-right (x == y) _ h) in
    cc

all_dropped : (n : ℕ) (es : List Entry) → list_all is_recovery es ≡ true → list_all is_recovery (drop n es) ≡ true
all_dropped zero es h = h
all_dropped (suc n) [] h = h
all_dropped (suc n) (e ∷ es) h = all_dropped n es (and-right (is_recovery e) _ h)

all_taken : (n : ℕ) (es : List Entry) → list_all is_recovery es ≡ true → list_all is_recovery (take n es) ≡ true
all_taken zero es h = refl
all_taken (suc n) [] h = refl
all_taken (suc n) (e ∷ es) h = and-both (is_recovery e) _ (and-left (is_recovery e) _ h) (all_taken n es (and-right (is_recovery e) _ h))

lt_by : (a b : ℕ) → nat_lt a b ≡ true → a < b
lt_by a b h = grind (arith, nat_tests)

-- a recovery has a node of its own
one_recovery : (es : List Entry) → 1 ≤ length es → list_all is_recovery es ≡ true → is_alone es ≡ true → length es ≡ 1
one_recovery [] n h a = let no_way : ⊥ = omega arith in absurd no_way
one_recovery (PlainEntry f ∷ es) n h a = false_true h
one_recovery (FindallEntry results l f ∷ es) n h a = false_true h
one_recovery (EndEntry b ∷ es) n h a = false_true h
one_recovery (CatchEntry c r f ∷ es) n h a = same_number (length (CatchEntry c r f ∷ es)) 1 a

abbrev OnlyTwos : List ℕ → Type 0
OnlyTwos sizes = (low : ℕ) (cuts : List ℕ) (e : Entry) (es : List Entry) → list_all is_recovery es ≡ true
    → fits_nodes low cuts sizes (e ∷ es) ≡ true → sizes ≡ twos (length es)

only_twos : (sizes : List ℕ) → OnlyTwos sizes
only_twos [] low cuts e [] h fits = refl
only_twos [] low cuts e (d ∷ es) h fits = let no_way : length (e ∷ d ∷ es) ≡ 1 = same_number (length (e ∷ d ∷ es)) 1 fits in absurd
    (omega (arith, no_way))
only_twos (size ∷ sizes) low cuts e es h fits =
    let two : 2 ≤ size = le_by 2 size (and-left (nat_le 2 size) _ fits) in
    let fit = and-right (nat_le 2 size) _ fits in
    let shorter : size - 1 < length (e ∷ es) = lt_by (size - 1) (length (e ∷ es)) (and-left (nat_lt (size - 1) (length (e ∷ es))) _ fit) in
    let rest : length (e ∷ es) - (size - 1) ≡ suc (length es - (size - 1)) = omega arith in
    parts (only_twos sizes) two shorter (subst (λ p. (is_alone (drop p (e ∷ es)) && (is_unsplit low size cuts && fits_nodes (low + (size - 1)) cuts sizes
    (take p (e ∷ es)))) ≡ true) rest (and-right (nat_lt (size - 1) (length (e ∷ es))) _ fit))
  where
    parts : OnlyTwos sizes → 2 ≤ size → size - 1 < suc (length es) → (is_alone (drop (length es - (size - 1)) es) && (is_unsplit low size cuts && fits_nodes
        (low + (size - 1)) cuts sizes (e ∷ take (length es - (size - 1)) es))) ≡ true → size ∷ sizes ≡ twos (length es)
    parts again two shorter fit =
        let before = length es - (size - 1) in
        let many : length (drop before es) ≡ length es - before = length-drop before es in
        let some : 1 ≤ length (drop before es) = omega (arith, many) in
        let one : length (drop before es) ≡ 1 = one_recovery (drop before es) some (all_dropped before es h)
        (and-left (is_alone (drop before es)) _ fit) in
        let left : length (take before es) ≡ before = length-take-le before es (omega arith) in
        let long : suc before ≡ length es = omega (arith, many, one) in
        let size_is : size ≡ 2 = omega (arith, many, one) in
        let others : sizes ≡ twos (length (take before es)) = again (low + (size - 1)) cuts e (take before es)
        (all_taken before es h) (and-right (is_unsplit low size cuts) _ (and-right (is_alone (drop before es)) _ fit)) in
        ap (λ n. n ∷ sizes) size_is ∙ (ap (λ l. 2 ∷ l) (others ∙ ap twos left) ∙ ap twos long)

pub no_other_fits : NoOtherFits
no_other_fits low f [] sizes h fits = same_is sizes (1 ∷ []) fits
no_other_fits low f (r ∷ recoveries) sizes h fits =
    only_twos sizes low (cuts_of (PlainEntry f ∷ r ∷ recoveries)) (PlainEntry f) (r ∷ recoveries) h fits ∙ sym (map_twos (r ∷ recoveries))
