-- A copy with its variables numbered from 0 has the copies of the term itself.
use Rattle.std.proofs.Common.{◌≡◌, ℕ, zero, suc, ◌+◌, ◌<◌, ◌≤◌, ◌==◌, ◌||◌, nat_lt, Bool, true, false, cond, List, [], ◌∷◌, ◌++◌, length, refl, sym, ap, ap₂, ◌∙◌, arith, append_assoc, append-nil, length-append}
use Rattle.std.proofs.lemmas.Bool.{eqb-true}
use Rattle.std.proofs.lemmas.Bool.Decides.{nat_tests}
use Rattle.std.specs.List.{list_any}
use Rattle.au_term.proofs.LogicLemmas.{none_true, not_equal, number_same}
use Rattle.au_term.specs.Term.{Term, VarTerm, IntTerm, AtomTerm, Compound, Terms, end, more}
use Rattle.au_model.proofs.ApplyLemmas.{apply-apply, apply-same, or_left, or_right}
use Rattle.au_model.specs.Terms.Copies.{noted, seen_in, seen_in_all, place_of, renamed, copied}
use Rattle.au_model.specs.Terms.Substitutions.{apply, apply_all}
use Rattle.task_stops.specs.CopiesAgain.{CopiesAreAlike}

-- the numbers below one
up_to : ℕ → List ℕ
up_to zero = []
up_to (suc k) = up_to k ++ k ∷ []

length-up_to : (k : ℕ) → length (up_to k) ≡ k
unfolding up_to
length-up_to zero = refl
length-up_to (suc k) =
    let a : length (up_to k ++ k ∷ []) ≡ length (up_to k) + 1 = length-append (up_to k) (k ∷ []) in
    let b = length-up_to k in
    omega (arith, a, b)

-- a number among others
any_append : (i : ℕ) (xs : List ℕ) (k : ℕ) → list_any (λ m. m == i) (xs ++ k ∷ []) ≡ (list_any (λ m. m == i) xs || (k == i))
any_append i [] k = or_false (k == i)
  where
    or_false : (b : Bool) → (b || false) ≡ (false || b)
    or_false true = refl
    or_false false = refl
any_append i (x ∷ xs) k = by_test (x == i) (any_append i xs k)
  where
    by_test : (b : Bool) → list_any (λ m. m == i) (xs ++ k ∷ []) ≡ (list_any (λ m. m == i) xs || (k == i))
        → (b || list_any (λ m. m == i) (xs ++ k ∷ [])) ≡ ((b || list_any (λ m. m == i) xs) || (k == i))
    by_test true h = refl
    by_test false h = h

in_up_to : (k i : ℕ) → i < k → list_any (λ m. m == i) (up_to k) ≡ true
unfolding up_to
in_up_to zero i h = absurd (omega (arith, h))
in_up_to (suc k) i h = any_append i (up_to k) k ∙ by_test (k == i) refl (in_up_to k i)
  where
    by_test : (b : Bool) → (k == i) ≡ b → (i < k → list_any (λ m. m == i) (up_to k) ≡ true) → (list_any (λ m. m == i) (up_to k) || (k == i)) ≡ true
    by_test true e f = or_right (list_any (λ m. m == i) (up_to k)) (k == i) e
    by_test false e f = let low : i < k = grind (arith, nat_tests, e, h) in or_left (list_any (λ m. m == i) (up_to k)) (k == i) (f low)

not_in_up_to : (k i : ℕ) → k ≤ i → list_any (λ m. m == i) (up_to k) ≡ false
unfolding up_to
not_in_up_to zero i h = refl
not_in_up_to (suc k) i h =
    any_append i (up_to k) k ∙ none_true (list_any (λ m. m == i) (up_to k)) (k == i) (not_in_up_to k i (omega (arith, h))) (not_equal k i (omega (arith, h)))

-- places before and behind the end of a list
place_in : (xs ys : List ℕ) (i : ℕ) → list_any (λ m. m == i) xs ≡ true → place_of (xs ++ ys) i ≡ place_of xs i
place_in [] ys i h = absurd (cc h)
place_in (x ∷ xs) ys i h = by_test (x == i) h (place_in xs ys i)
  where
    by_test : (b : Bool) → (b || list_any (λ m. m == i) xs) ≡ true → (list_any (λ m. m == i) xs ≡ true → place_of (xs ++ ys) i ≡ place_of xs i)
        → cond b 0 (suc (place_of (xs ++ ys) i)) ≡ cond b 0 (suc (place_of xs i))
    by_test true k f = refl
    by_test false k f = ap suc (f k)

place_past : (xs ys : List ℕ) (i : ℕ) → list_any (λ m. m == i) xs ≡ false → place_of (xs ++ ys) i ≡ length xs + place_of ys i
place_past [] ys i h = omega arith
place_past (x ∷ xs) ys i h = by_test (x == i) h (place_past xs ys i)
  where
    by_test : (b : Bool) → (b || list_any (λ m. m == i) xs) ≡ false → (list_any (λ m. m == i) xs ≡ false → place_of (xs ++ ys) i ≡ length xs + place_of ys i)
        → cond b 0 (suc (place_of (xs ++ ys) i)) ≡ suc (length xs) + place_of ys i
    by_test true k f = absurd (cc k)
    by_test false k f = let e = f k in omega (arith, e)

place_low : (xs : List ℕ) (i : ℕ) → list_any (λ m. m == i) xs ≡ true → place_of xs i < length xs
place_low [] i h = absurd (cc h)
place_low (x ∷ xs) i h = by_test (x == i) h (place_low xs i)
  where
    by_test : (b : Bool) → (b || list_any (λ m. m == i) xs) ≡ true → (list_any (λ m. m == i) xs ≡ true → place_of xs i < length xs)
        → cond b 0 (suc (place_of xs i)) < suc (length xs)
    by_test true k f = omega arith
    by_test false k f = let e = f k in omega (arith, e)

place_most : (xs : List ℕ) (i : ℕ) → place_of xs i ≤ length xs
place_most [] i = omega arith
place_most (x ∷ xs) i = by_test (x == i) (place_most xs i)
  where
    by_test : (b : Bool) → place_of xs i ≤ length xs → cond b 0 (suc (place_of xs i)) ≤ suc (length xs)
    by_test true f = omega arith
    by_test false f = omega (arith, f)

place_up_to : (k i : ℕ) → i ≤ k → place_of (up_to k) i ≡ i
unfolding up_to
place_up_to zero i h = omega (arith, h)
place_up_to (suc k) i h = by_test (nat_lt i k) refl (place_up_to k i)
  where
    last : (b : Bool) → (k == i) ≡ b → k ≤ i → place_of (up_to k ++ k ∷ []) i ≡ i
    last b e le =
        place_past (up_to k) (k ∷ []) i (not_in_up_to k i le)
        ∙ (ap₂ (λ (n : ℕ) (c : Bool). n + cond c 0 1) (length-up_to k) e ∙ at_end b e)
      where
        at_end : (c : Bool) → (k == i) ≡ c → k + cond c 0 1 ≡ i
        at_end true f = let same : k ≡ i = eqb-true k i f in omega (arith, same)
        at_end false f = grind (arith, nat_tests, f, h, le)

    by_test : (b : Bool) → nat_lt i k ≡ b → (i ≤ k → place_of (up_to k) i ≡ i) → place_of (up_to k ++ k ∷ []) i ≡ i
    by_test true e f = let low : i < k = grind (arith, nat_tests, e) in place_in (up_to k) (k ∷ []) i (in_up_to k i low) ∙ f (omega (arith, low))
    by_test false e f = let high : k ≤ i = grind (arith, nat_tests, e) in last (k == i) refl high

-- what is seen comes behind what was seen before
mutual
  grows : (t : Term) (seen : List ℕ) → (further : List ℕ) × (seen_in t seen ≡ seen ++ further)
  grows (VarTerm n) seen = by_test (list_any (λ m. m == n) seen)
    where
      by_test : (b : Bool) → (further : List ℕ) × (cond b seen (seen ++ n ∷ []) ≡ seen ++ further)
      by_test true = ([], sym (append-nil seen))
      by_test false = (n ∷ [], refl)
  grows (IntTerm z) seen = ([], sym (append-nil seen))
  grows (AtomTerm a) seen = ([], sym (append-nil seen))
  grows (Compound f ts) seen = all_grow ts seen

  all_grow : (ts : Terms) (seen : List ℕ) → (further : List ℕ) × (seen_in_all ts seen ≡ seen ++ further)
  all_grow end seen = ([], sym (append-nil seen))
  all_grow (more t ts) seen =
      let k = grows t seen in
      let l = all_grow ts (seen_in t seen) in
      (k.0 ++ l.0, l.1 ∙ (ap (λ xs. xs ++ l.0) k.1 ∙ append_assoc seen k.0 l.0))

abbrev StartsWith : List ℕ → List ℕ → Type 0
StartsWith all xs = (rest : List ℕ) × (all ≡ xs ++ rest)

-- so a variable of the copy has been seen where that of the term was
variable_again : (all seen : List ℕ) (n : ℕ) → StartsWith all (noted seen n) → noted (up_to (length seen)) (0 + place_of all n) ≡ up_to (length (noted seen n))
unfolding up_to
variable_again all seen n starts = ap (noted (up_to (length seen))) (let e : 0 + place_of all n ≡ place_of all n = omega arith in e) ∙ by_test (list_any (λ m. m == n) seen) refl starts
  where
    by_test : (b : Bool) → list_any (λ m. m == n) seen ≡ b → StartsWith all (cond b seen (seen ++ n ∷ []))
        → noted (up_to (length seen)) (place_of all n) ≡ up_to (length (cond b seen (seen ++ n ∷ [])))
    by_test true e w =
        let at : place_of all n ≡ place_of seen n = ap (λ xs. place_of xs n) w.1 ∙ place_in seen w.0 n e in
        let low = place_low seen n e in
        ap (λ b. cond b (up_to (length seen)) (up_to (length seen) ++ place_of all n ∷ [])) (in_up_to (length seen) (place_of all n) (omega (arith, at, low)))
    by_test false e w =
        let here : place_of (n ∷ w.0) n ≡ 0 = ap (λ b. cond b 0 (suc (place_of w.0 n))) (number_same n) in
        let past : place_of (seen ++ n ∷ w.0) n ≡ length seen + place_of (n ∷ w.0) n = place_past seen (n ∷ w.0) n e in
        let at : place_of all n ≡ length seen = ap (λ xs. place_of xs n) (w.1 ∙ append_assoc seen (n ∷ []) w.0) ∙ (let r : place_of (seen ++ n ∷ w.0) n ≡ length seen = omega (arith, here, past) in r) in
        let longer : length (seen ++ n ∷ []) ≡ length seen + 1 = length-append seen (n ∷ []) in
        ap (noted (up_to (length seen))) at
        ∙ (ap (λ b. cond b (up_to (length seen)) (up_to (length seen) ++ length seen ∷ [])) (not_in_up_to (length seen) (length seen) (omega arith))
        ∙ ap up_to (let r : suc (length seen) ≡ length (seen ++ n ∷ []) = omega (arith, longer) in r))

mutual
  term_again : (all : List ℕ) (t : Term) (seen : List ℕ) → StartsWith all (seen_in t seen) → seen_in (apply (renamed all 0) t) (up_to (length seen)) ≡ up_to (length (seen_in t seen))
  term_again all (VarTerm n) seen w = variable_again all seen n w
  term_again all (IntTerm z) seen w = refl
  term_again all (AtomTerm a) seen w = refl
  term_again all (Compound f ts) seen w = terms_again all ts seen w

  terms_again : (all : List ℕ) (ts : Terms) (seen : List ℕ) → StartsWith all (seen_in_all ts seen)
      → seen_in_all (apply_all (renamed all 0) ts) (up_to (length seen)) ≡ up_to (length (seen_in_all ts seen))
  terms_again all end seen w = refl
  terms_again all (more t ts) seen w =
      let k = all_grow ts (seen_in t seen) in
      let first : StartsWith all (seen_in t seen) = (k.0 ++ w.0, w.1 ∙ (ap (λ xs. xs ++ w.0) k.1 ∙ append_assoc (seen_in t seen) k.0 w.0)) in
      ap (seen_in_all (apply_all (renamed all 0) ts)) (term_again all t seen first) ∙ terms_again all ts (seen_in t seen) w

seen_again : (t : Term) → seen_in (copied t 0) [] ≡ up_to (length (seen_in t []))
unfolding up_to
seen_again t = term_again (seen_in t []) t [] ([], sym (append-nil (seen_in t [])))

pub copies_are_alike : CopiesAreAlike
copies_are_alike t = record {
  copies = λ next.
      let all = seen_in t [] in
      ap (λ seen. apply (renamed seen next) (copied t 0)) (seen_again t)
      ∙ (apply-apply (renamed (up_to (length all)) next) (renamed all 0) t
      ∙ apply-same (λ n. apply (renamed (up_to (length all)) next) (renamed all 0 n)) (renamed all next)
      (λ n.
      let most = place_most all n in
      let zero_plus : 0 + place_of all n ≡ place_of all n = omega arith in
      ap (λ i. VarTerm (next + i)) (place_up_to (length all) (0 + place_of all n) (omega (arith, most)) ∙ zero_plus)) t);
  takes = ap length (seen_again t) ∙ length-up_to (length (seen_in t []));
}
