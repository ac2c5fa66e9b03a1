-- Names numbered in the order in which they are met.
use Rattle.std.proofs.Common.{inl, inr, ◌≡◌, ℕ, zero, suc, ◌<◌, ◌==◌, nat_eq, Bool, true, false, cond, List, [], ◌∷◌, ◌++◌, length, length-append, Option, Some, None, refl, sym, ap, ◌∙◌, subst, append-nil, arith}
use Rattle.std.specs.Prelude.{option_map}
use Rattle.std.proofs.lemmas.Bool.{false≢true}
use Rattle.std.proofs.lemmas.Bool.Decides.{nat_tests}
use Rattle.std.specs.BTreeMap.{BTreeMap, get, is_at}
use Rattle.std.specs.Cmp.Lexicographic.{slice_cmp, same_text, texts_ties}
use Rattle.std.specs.Ordering.{nat_cmp}
use Rattle.au_term.specs.declared.atom.Atom.{Atom}
use Rattle.au_model.specs.Terms.Forms.{same_name}
use Rattle.clause_compile.specs.AtomNumbers.{name_at, number_of_name, AreDistinct, IsNumbering, IsNumbered}

pub at_name : (n q : List ℕ) → is_at (slice_cmp nat_cmp n) q ≡ same_name n q
at_name n q = sym (texts_ties n q)

pub self_same : (a : List ℕ) → same_name a a ≡ true
self_same [] = refl
self_same (n ∷ ns) = let first : nat_eq n n ≡ true = grind (arith, nat_tests) in rw first (self_same ns)

-- where a name has a number, it stands there
pub stands_there : (names : List (List ℕ)) (a : List ℕ) (i : ℕ) → number_of_name names a ≡ Some i → (i < length names) × (name_at names i ≡ a)
stands_there [] a i e = absurd cc
stands_there (n ∷ ns) a i e = by_test (same_name n a) refl (number_of_name ns a) (λ k h. stands_there ns a k h) e
  where
    by_test : (b : Bool) → same_name n a ≡ b → (o : Option ℕ) → ((k : ℕ) → o ≡ Some k → (k < length ns) × (name_at ns k ≡ a)) → cond b (Some 0) (option_map (λ i. suc i) o) ≡ Some i → (i < length (n ∷ ns)) × (name_at (n ∷ ns) i ≡ a)
    by_test true t o h e = let zeroth : 0 ≡ i = cc in subst (λ k. (k < length (n ∷ ns)) × (name_at (n ∷ ns) k ≡ a)) zeroth (omega arith, same_text n a (sym t))
    by_test false t None h e = absurd cc
    by_test false t (Some k) h e = let next : suc k ≡ i = cc in let there = h k refl in subst (λ k. (k < length (n ∷ ns)) × (name_at (n ∷ ns) k ≡ a)) next (let lt = there.0 in omega arith, there.1)

-- a name without a number stands nowhere
pub stands_nowhere : (names : List (List ℕ)) (a : List ℕ) (i : ℕ) → number_of_name names a ≡ None → i < length names → name_at names i ≡ a → ⊥
stands_nowhere [] a i e lt h = omega arith
stands_nowhere (n ∷ ns) a i e lt h = by_test (same_name n a) refl (number_of_name ns a) refl e i lt h (λ j f l k. stands_nowhere ns a j f l k)
  where
    by_test : (b : Bool) → same_name n a ≡ b → (o : Option ℕ) → number_of_name ns a ≡ o → cond b (Some 0) (option_map (λ i. suc i) o) ≡ None → (i : ℕ) → i < length (n ∷ ns) → name_at (n ∷ ns) i ≡ a
        → ((j : ℕ) → number_of_name ns a ≡ None → j < length ns → name_at ns j ≡ a → ⊥) → ⊥
    by_test true t o f e i lt h g = absurd cc
    by_test false t (Some k) f e i lt h g = absurd cc
    by_test false t None f e zero lt h g = false≢true (sym t ∙ (ap (λ x. same_name x a) h ∙ self_same a))
    by_test false t None f e (suc i) lt h g = g i f (omega arith) h

pub name_at-front : (names more : List (List ℕ)) (i : ℕ) → i < length names → name_at (names ++ more) i ≡ name_at names i
name_at-front [] more i lt = absurd (omega arith)
name_at-front (n ∷ ns) more zero lt = refl
name_at-front (n ∷ ns) more (suc i) lt = name_at-front ns more i (omega arith)

name_at-last : (names : List (List ℕ)) (a : List ℕ) → name_at (names ++ a ∷ []) (length names) ≡ a
name_at-last [] a = refl
name_at-last (n ∷ ns) a = name_at-last ns a

-- one name more
number_of_name-more : (names : List (List ℕ)) (x a : List ℕ) → number_of_name names x ≡ None → number_of_name (names ++ x ∷ []) a ≡ cond (same_name x a) (Some (length names)) (number_of_name names a)
number_of_name-more [] x a e = refl
number_of_name-more (n ∷ ns) x a e = by_tests (same_name n x) refl (number_of_name ns x) refl e (same_name n a) (same_name x a) refl refl (λ f. number_of_name-more ns x a f)
  where
    by_tests : (u : Bool) → same_name n x ≡ u → (o : Option ℕ) → number_of_name ns x ≡ o → cond u (Some 0) (option_map (λ i. suc i) o) ≡ None → (v w : Bool) → same_name n a ≡ v → same_name x a ≡ w
        → (number_of_name ns x ≡ None → number_of_name (ns ++ x ∷ []) a ≡ cond (same_name x a) (Some (length ns)) (number_of_name ns a))
        → cond v (Some 0) (option_map (λ i. suc i) (number_of_name (ns ++ x ∷ []) a)) ≡ cond w (Some (length (n ∷ ns))) (cond v (Some 0) (option_map (λ i. suc i) (number_of_name ns a)))
    by_tests true p o f e v w q r h = absurd cc
    by_tests false p (Some k) f e v w q r h = absurd cc
    by_tests false p None f e true true q r h = absurd (false≢true (sym p ∙ (ap (same_name n) (same_text x a (sym r)) ∙ q)))
    by_tests false p None f e true false q r h = refl
    by_tests false p None f e false true q r h = ap (option_map (λ i. suc i)) (h f ∙ ap (λ b. cond b (Some (length ns)) (number_of_name ns a)) r)
    by_tests false p None f e false false q r h = ap (option_map (λ i. suc i)) (h f ∙ ap (λ b. cond b (Some (length ns)) (number_of_name ns a)) r)

distinct_more : (names : List (List ℕ)) (x : List ℕ) → number_of_name names x ≡ None → AreDistinct names → AreDistinct (names ++ x ∷ [])
distinct_more names x e d i j li lj h = by_ends (i == length names) (j == length names) refl refl
  where
    total : length (names ++ x ∷ []) ≡ suc (length names)
    total = omega (arith, length-append names (x ∷ []))

    last : (k : ℕ) → k ≡ length names → name_at (names ++ x ∷ []) k ≡ x
    last k q = ap (name_at (names ++ x ∷ [])) q ∙ name_at-last names x

    by_ends : (v w : Bool) → (i == length names) ≡ v → (j == length names) ≡ w → i ≡ j
    by_ends true true p q = grind (arith, nat_tests)
    by_ends true false p q =
        let at_end : i ≡ length names = grind (arith, nat_tests) in
        let inside : j < length names = let n = total in grind (arith, nat_tests) in
        absurd (stands_nowhere names x j e inside (sym (name_at-front names (x ∷ []) j inside) ∙ (sym h ∙ last i at_end)))
    by_ends false true p q =
        let at_end : j ≡ length names = grind (arith, nat_tests) in
        let inside : i < length names = let n = total in grind (arith, nat_tests) in
        absurd (stands_nowhere names x i e inside (sym (name_at-front names (x ∷ []) i inside) ∙ (h ∙ last j at_end)))
    by_ends false false p q =
        let first : i < length names = let n = total in grind (arith, nat_tests) in
        let second : j < length names = let n = total in grind (arith, nat_tests) in
        d i j first second (sym (name_at-front names (x ∷ []) i first) ∙ (h ∙ name_at-front names (x ∷ []) j second))

pub numbering_more : (names : List (List ℕ)) (x : List ℕ) (n : ℕ) (numbers now : BTreeMap Atom ℕ) → IsNumbering names numbers → get (slice_cmp nat_cmp) numbers x ≡ None → n ≡ length names
    → ((q : List ℕ) → get (slice_cmp nat_cmp) now q ≡ cond (is_at (slice_cmp nat_cmp x) q) (Some n) (get (slice_cmp nat_cmp) numbers q)) → IsNumbering (names ++ x ∷ []) now
numbering_more names x n numbers now h e k u =
    let none : number_of_name names x ≡ None = sym (h.found x) ∙ e in
    record {
      found = λ a. u a ∙ (ap (λ b. cond b (Some n) (get (slice_cmp nat_cmp) numbers a)) (at_name x a) ∙ (ap (λ o. cond (same_name x a) (Some n) o) (h.found a) ∙ (ap (λ m. cond (same_name x a) (Some m) (number_of_name names a)) k ∙ sym (number_of_name-more names x a none))));
      distinct = distinct_more names x none h.distinct;
    }

pub no_names : (numbers : BTreeMap Atom ℕ) → ((q : List ℕ) → get (slice_cmp nat_cmp) numbers q ≡ None) → IsNumbering [] numbers
no_names numbers h = record { found = h; distinct = λ i j li lj e. absurd (omega arith) }

pub numbered_before : (names : List (List ℕ)) (numbers : BTreeMap Atom ℕ) (a : List ℕ) (n : ℕ) → IsNumbering names numbers → get (slice_cmp nat_cmp) numbers a ≡ Some n → IsNumbered names names a n
numbered_before names numbers a n h e =
    let there = stands_there names a n (sym (h.found a) ∙ e) in
    record { more = []; is = sym (append-nil names); few = inl refl; within = there.0; named = there.1 }

pub numbered_now : (names now : List (List ℕ)) (a : List ℕ) (n : ℕ) → n ≡ length names → now ≡ names ++ a ∷ [] → IsNumbered names now a n
numbered_now names now a n e h = subst (λ ns. IsNumbered names ns a n) (sym h) (record {
  more = a ∷ [];
  is = refl;
  few = inr refl;
  within = omega (arith, length-append names (a ∷ []));
  named = ap (name_at (names ++ a ∷ [])) e ∙ name_at-last names a;
})
