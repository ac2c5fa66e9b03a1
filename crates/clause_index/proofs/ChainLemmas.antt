-- Chains of heads in one class.
use Rattle.std.proofs.Common.{◌≡◌, ℕ, zero, suc, ◌+◌, ◌<◌, ◌≤◌, Bool, true, false, cond, ◌||◌, List, [], ◌∷◌, length, drop, reverse, slice_index_or, Option, Some, refl, sym, ap, ap₂, subst, ◌∙◌, arith}
use Rattle.std.specs.List.{slice_get}
use Rattle.std.specs.BTreeMap.{BTreeMap, get, is_at}
use Rattle.std.proofs.lemmas.List.{reverse-append}
use Rattle.std.proofs.lemmas.Option.{slice_get_read}
use Rattle.clause_index.specs.declared.key.HeadKey.{HeadKey}
use Rattle.clause_index.specs.declared.key.Class.{Class}
use Rattle.clause_index.specs.Classes.{is_of, same_class, procedure_class, key_class}
use Rattle.clause_index.specs.Numbers.{head_numbers_from, first_from}
use Rattle.clause_index.specs.Cursors.{chain, chain_in, IsNumberBelow}
use Rattle.clause_index.specs.Chains.{class_cmp, links_from, IsChained, AreLinkedFrom}
use Rattle.clause_index.proofs.ClassLemmas.{class_tied, in_own, of_own, in_procedure, of_procedure, procedure_is_other}
use Rattle.clause_index.proofs.NumberLemmas.{first_below}

-- the tail of a list that is known from a number on
pub drop_next : {X : Type 0} (i : ℕ) (xs : List X) (y : X) (ys : List X) → drop i xs ≡ y ∷ ys → drop (suc i) xs ≡ ys
drop_next zero [] y ys e = absurd cc
drop_next zero (x ∷ xs) y ys e = cc
drop_next (suc i) [] y ys e = absurd cc
drop_next (suc i) (x ∷ xs) y ys e = drop_next i xs y ys e

-- the chain from the first head of a class on
pub chain_found : (class : HeadKey → Class) (c : Class) (heads hs : List HeadKey) (j : ℕ) → ((h : HeadKey) → is_of c h ≡ true → class h ≡ c) → drop j heads ≡ hs
    → chain class heads (first_from j (is_of c) hs) ≡ head_numbers_from j (is_of c) hs
chain_found class c heads [] j own e = refl
chain_found class c heads (h ∷ hs) j own e = by_test (is_of c h) refl (chain_found class c heads hs (suc j) own (drop_next j heads h hs e))
  where
    by_test : (b : Bool) → is_of c h ≡ b → chain class heads (first_from (suc j) (is_of c) hs) ≡ head_numbers_from (suc j) (is_of c) hs
        → chain class heads (cond b (Some j) (first_from (suc j) (is_of c) hs)) ≡ cond b (j ∷ head_numbers_from (suc j) (is_of c) hs) (head_numbers_from (suc j) (is_of c) hs)
    by_test true t r =
        ap (chain_in class j) e ∙ (ap (λ d. head_numbers_from j (is_of d) (h ∷ hs)) (own h t) ∙ ap (λ b. cond b (j ∷ head_numbers_from (suc j) (is_of c) hs) (head_numbers_from (suc j) (is_of c) hs)) t)
    by_test false t r = r

-- the classes by which heads are linked
pub record IsLinking (class : HeadKey → Class) : Type 0 where
  pub of : (h : HeadKey) → is_of (class h) h ≡ true
  pub in_class : (h other : HeadKey) → is_of (class h) other ≡ true → class other ≡ class h

pub by_procedure : IsLinking procedure_class
by_procedure = record { of = of_procedure; in_class = λ h other e. in_procedure h.name h.arity other e }

pub by_own : IsLinking key_class
by_own = record { of = of_own; in_class = in_own }

-- a head of a chain, and the link to the next one
pub link_follows : (class : HeadKey → Class) → IsLinking class → (heads hs : List HeadKey) (i k : ℕ) (o : Option ℕ) → drop i heads ≡ hs → slice_get (links_from class i hs) k ≡ Some o
    → chain class heads (Some (i + k)) ≡ (i + k) ∷ chain class heads o
link_follows class l heads [] i k o e g = absurd cc
link_follows class l heads (h ∷ hs) i zero o e g =
    let next : first_from (suc i) (is_of (class h)) hs ≡ o = cc in
    let here : chain class heads (Some i) ≡ i ∷ chain class heads o =
    ap (chain_in class i) e
    ∙ (ap (λ b. cond b (i ∷ head_numbers_from (suc i) (is_of (class h)) hs) (head_numbers_from (suc i) (is_of (class h)) hs)) (l.of h)
    ∙ ap (λ ks. i ∷ ks) (sym (chain_found class (class h) heads hs (suc i) (l.in_class h) (drop_next i heads h hs e)) ∙ ap (chain class heads) next)) in
    subst (λ n. chain class heads (Some n) ≡ n ∷ chain class heads o) (omega arith) here
link_follows class l heads (h ∷ hs) i (suc k) o e g =
    subst (λ n. chain class heads (Some n) ≡ n ∷ chain class heads o) (omega arith) (link_follows class l heads hs (suc i) k o (drop_next i heads h hs e) g)

pub link_below : (class : HeadKey → Class) (hs : List HeadKey) (i k n : ℕ) (o : Option ℕ) → i + length hs ≤ n → slice_get (links_from class i hs) k ≡ Some o → IsNumberBelow n o
link_below class [] i k n o le g = absurd cc
link_below class (h ∷ hs) i zero n o le g =
    let next : first_from (suc i) (is_of (class h)) hs ≡ o = cc in
    subst (IsNumberBelow n) next (first_below (suc i) (is_of (class h)) hs n (omega arith))
link_below class (h ∷ hs) i (suc k) n o le g = link_below class hs (suc i) k n o (omega arith) g

pub links_length : (class : HeadKey → Class) (hs : List HeadKey) (i : ℕ) → length (links_from class i hs) ≡ length hs
links_length class [] i = refl
links_length class (h ∷ hs) i = ap suc (links_length class hs (suc i))

-- links made from the last head to the first
pub linked_more : (heads : List HeadKey) (ps cs ps1 cs1 : List (Option ℕ)) (f g m : BTreeMap Class ℕ) (from : ℕ) (h : HeadKey) → drop from heads ≡ h ∷ drop (suc from) heads
    → AreLinkedFrom heads ps cs f (suc from) → IsChained from (procedure_class h) f g ps ps1 → IsChained from (key_class h) g m cs cs1 → AreLinkedFrom heads ps1 cs1 m from
linked_more heads ps cs ps1 cs1 f g m from h e a p q = record {
  procedures_are = ap reverse p.links ∙ (reverse-append ps (get class_cmp f (procedure_class h) ∷ []) ∙ (ap₂ (λ x xs. x ∷ xs) (a.firsts_are (procedure_class h)) a.procedures_are ∙ ap (links_from procedure_class from) (sym e)));
  classes_are = ap reverse q.links ∙ (reverse-append cs (get class_cmp g (key_class h) ∷ []) ∙ (ap₂ (λ x xs. x ∷ xs) (untouched ∙ a.firsts_are (key_class h)) a.classes_are ∙ ap (links_from key_class from) (sym e)));
  firsts_are = λ c. q.firsts c ∙ (ap (λ o. cond (is_at (class_cmp (key_class h)) c) (Some from) o) (p.firsts c) ∙ (by_tests c ∙ ap (first_from from (is_of c)) (sym e)));
}
  where
    untouched : get class_cmp g (key_class h) ≡ get class_cmp f (key_class h)
    untouched = p.firsts (key_class h) ∙ ap (λ b. cond b (Some from) (get class_cmp f (key_class h))) (class_tied (procedure_class h) (key_class h) ∙ procedure_is_other h)

    either : (a b : Bool) (x y : Option ℕ) → cond a x (cond b x y) ≡ cond (b || a) x y
    either true true x y = refl
    either true false x y = refl
    either false true x y = refl
    either false false x y = refl

    by_tests : (c : Class) → cond (is_at (class_cmp (key_class h)) c) (Some from) (cond (is_at (class_cmp (procedure_class h)) c) (Some from) (get class_cmp f c)) ≡ first_from from (is_of c) (h ∷ drop (suc from) heads)
    by_tests c =
        ap₂ (λ a b. cond a (Some from) (cond b (Some from) (get class_cmp f c))) (class_tied (key_class h) c) (class_tied (procedure_class h) c)
        ∙ (either (same_class (key_class h) c) (same_class (procedure_class h) c) (Some from) (get class_cmp f c)
        ∙ ap (λ o. cond (is_of c h) (Some from) o) (a.firsts_are c))

-- a link that was read, where the links are those of heads
pub record IsLinkOf (class : HeadKey → Class) (heads : List HeadKey) (n : ℕ) (o : Option ℕ) : Type 0 where
  pub next : chain class heads (Some n) ≡ n ∷ chain class heads o
  pub below : IsNumberBelow (length heads) o

pub link_read : (class : HeadKey → Class) → IsLinking class → (known heads : List HeadKey) (links : List (Option ℕ)) (n : ℕ) (o : Option ℕ) → links ≡ links_from class 0 known → known ≡ heads → n < length heads → o ≡ slice_index_or links n o
    → IsLinkOf class heads n o
link_read class l known heads links n o e k lt r =
    let links_are : links ≡ links_from class 0 heads = e ∙ ap (links_from class 0) k in
    let within : n < length (links_from class 0 heads) = subst (λ m. n < m) (sym (links_length class heads 0)) lt in
    let read : slice_get (links_from class 0 heads) n ≡ Some o = slice_get_read (links_from class 0 heads) (length (links_from class 0 heads)) n o refl within (r ∙ ap (λ xs. slice_index_or xs n o) links_are) in
    record { next = subst (λ m. chain class heads (Some m) ≡ m ∷ chain class heads o) (omega arith) (link_follows class l heads heads 0 n o refl read); below = link_below class heads 0 n (length heads) o (omega arith) read }
