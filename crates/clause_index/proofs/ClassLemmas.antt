-- Classes of heads.
use Rattle.std.proofs.Common.{◌≡◌, ℕ, Bool, true, false, ◌&&◌, ◌||◌, ◌==◌, Option, Some, None, refl, sym, ap, ◌∙◌}
use Rattle.std.specs.BTreeMap.{is_at}
use Rattle.std.proofs.lemmas.Bool.Decides.{Decides-int_eq}
use Rattle.std.proofs.lemmas.Bool.{and_parts}
use Rattle.std.proofs.Math.Bool.{and-true, and_assoc}
use Rattle.au_term.proofs.LogicLemmas.{same_number, number_same, or_false, and-false}
use Rattle.clause_index.specs.contracts.key.ClassPartialEq.TheImpl as class_eq
use Rattle.clause_index.specs.contracts.key.ClassOrd.TheImpl.Laws as order_laws
use Rattle.clause_index.specs.contracts.key.ClassEq.TheImpl.Laws as equality_laws
use Rattle.clause_index.specs.declared.key.NumberKey.{NumberKey}
use Rattle.clause_index.specs.declared.key.NumberKey.TheVariants.{Int, Atom, Functor}
use Rattle.clause_index.specs.declared.key.HeadKey.{HeadKey}
use Rattle.clause_index.specs.declared.key.Class.{Class}
use Rattle.clause_index.specs.declared.key.Class.TheVariants.{Procedure, WithoutKey, WithKey}
use Rattle.clause_index.specs.Classes.{same_number_key, same_class, procedure_class, class_by, key_class, is_of, is_head_of, keys_match, can_match}
use Rattle.clause_index.specs.Chains.{class_cmp}

pub same_key_is : (k l : NumberKey) → same_number_key k l ≡ true → k ≡ l
same_key_is (Int y) (Int z) e = ap Int ((Decides-int_eq y z).0 e)
same_key_is (Int y) (Atom b) e = absurd cc
same_key_is (Int y) (Functor g n) e = absurd cc
same_key_is (Atom a) (Int z) e = absurd cc
same_key_is (Atom a) (Atom b) e = ap Atom (same_number a b e)
same_key_is (Atom a) (Functor g n) e = absurd cc
same_key_is (Functor f m) (Int z) e = absurd cc
same_key_is (Functor f m) (Atom b) e = absurd cc
same_key_is (Functor f m) (Functor g n) e =
    let parts = and_parts (f == g) (m == n) e in
    let names = same_number f g parts.0 in let arities = same_number m n parts.1 in cc

-- the order of the map tells classes apart as they are
same_eq : (c d : Class) → (class_eq.ghosts).eq c d ≡ same_class c d
same_eq (Procedure f m) (Procedure g n) = refl
same_eq (Procedure f m) (WithoutKey g n) = refl
same_eq (Procedure f m) (WithKey g n l) = refl
same_eq (WithoutKey f m) (Procedure g n) = refl
same_eq (WithoutKey f m) (WithoutKey g n) = refl
same_eq (WithoutKey f m) (WithKey g n l) = refl
same_eq (WithKey f m k) (Procedure g n) = refl
same_eq (WithKey f m k) (WithoutKey g n) = refl
same_eq (WithKey f m (Int y)) (WithKey g n (Int z)) = refl
same_eq (WithKey f m (Int y)) (WithKey g n (Atom b)) = refl
same_eq (WithKey f m (Int y)) (WithKey g n (Functor p q)) = refl
same_eq (WithKey f m (Atom a)) (WithKey g n (Int z)) = refl
same_eq (WithKey f m (Atom a)) (WithKey g n (Atom b)) = refl
same_eq (WithKey f m (Atom a)) (WithKey g n (Functor p q)) = refl
same_eq (WithKey f m (Functor i j)) (WithKey g n (Int z)) = refl
same_eq (WithKey f m (Functor i j)) (WithKey g n (Atom b)) = refl
same_eq (WithKey f m (Functor i j)) (WithKey g n (Functor p q)) = refl

pub class_tied : (own c : Class) → is_at (class_cmp own) c ≡ same_class own c
class_tied own c = sym (order_laws.matches_eq-law own c) ∙ same_eq own c

-- a head of a class of a procedure, or of those with its key, has that class
pub in_procedure : (f n : ℕ) (h : HeadKey) → is_of (Procedure f n) h ≡ true → procedure_class h ≡ Procedure f n
in_procedure f n h e = by_parts (h.name == f) (h.arity == n) (none h.first) refl refl e
  where
    none : (o : Option NumberKey) → same_class (class_by h.name h.arity o) (Procedure f n) ≡ false
    none None = refl
    none (Some k) = refl

    by_parts : (a b : Bool) → same_class (key_class h) (Procedure f n) ≡ false → (h.name == f) ≡ a → (h.arity == n) ≡ b → is_of (Procedure f n) h ≡ true → procedure_class h ≡ Procedure f n
    by_parts true true z p q k = let names = same_number h.name f p in let arities = same_number h.arity n q in cc
    by_parts true false z p q k = absurd cc
    by_parts false b z p q k = absurd cc

-- what a class by a name, a number of arguments and a key is of
without_by : (f n g m : ℕ) (o : Option NumberKey) → same_class (class_by f n o) (WithoutKey g m) ≡ true → class_by f n o ≡ WithoutKey g m
without_by f n g m None e =
    let parts = and_parts (f == g) (n == m) e in
    let names = same_number f g parts.0 in let arities = same_number n m parts.1 in cc
without_by f n g m (Some k) e = absurd cc

with_by : (f n g m : ℕ) (l : NumberKey) (o : Option NumberKey) → same_class (class_by f n o) (WithKey g m l) ≡ true → class_by f n o ≡ WithKey g m l
with_by f n g m l None e = absurd cc
with_by f n g m l (Some k) e =
    let parts = and_parts (f == g) (n == m && same_number_key k l) e in
    let further = and_parts (n == m) (same_number_key k l) parts.1 in
    let names = same_number f g parts.0 in let arities = same_number n m further.0 in let keys = same_key_is k l further.1 in cc

pub without_key : (f n : ℕ) (h : HeadKey) → is_of (WithoutKey f n) h ≡ true → key_class h ≡ WithoutKey f n
without_key f n h e = without_by h.name h.arity f n h.first e

pub with_key : (f n : ℕ) (k : NumberKey) (h : HeadKey) → is_of (WithKey f n k) h ≡ true → key_class h ≡ WithKey f n k
with_key f n k h e = with_by h.name h.arity f n k h.first e

pub in_own : (h other : HeadKey) → is_of (key_class h) other ≡ true → key_class other ≡ key_class h
in_own h other e = by_key h.first e
  where
    by_key : (o : Option NumberKey) → is_of (class_by h.name h.arity o) other ≡ true → key_class other ≡ class_by h.name h.arity o
    by_key None k = without_key h.name h.arity other k
    by_key (Some l) k = with_key h.name h.arity l other k

-- a class is the same as itself, so a head is of its procedure's class and of its own
same_self : (c : Class) → same_class c c ≡ true
same_self c = sym (same_eq c c) ∙ equality_laws.laws-law.refl c

or_true : (b : Bool) → (b || true) ≡ true
or_true true = refl
or_true false = refl

pub of_own : (h : HeadKey) → is_of (key_class h) h ≡ true
of_own h = ap (λ b. same_class (procedure_class h) (key_class h) || b) (same_self (key_class h)) ∙ or_true (same_class (procedure_class h) (key_class h))

pub of_procedure : (h : HeadKey) → is_of (procedure_class h) h ≡ true
of_procedure h = ap (λ b. b || same_class (key_class h) (procedure_class h)) (same_self (procedure_class h))

pub procedure_is_other : (h : HeadKey) → same_class (procedure_class h) (key_class h) ≡ false
procedure_is_other h = by_key h.first
  where
    by_key : (o : Option NumberKey) → same_class (procedure_class h) (class_by h.name h.arity o) ≡ false
    by_key None = refl
    by_key (Some k) = refl

-- the classes that a goal may match
pub head_test : (f n : ℕ) (h : HeadKey) → is_of (Procedure f n) h ≡ is_head_of f n h
head_test f n h = by_key h.first
  where
    by_key : (o : Option NumberKey) → (is_head_of f n h || same_class (class_by h.name h.arity o) (Procedure f n)) ≡ is_head_of f n h
    by_key None = or_false (is_head_of f n h)
    by_key (Some k) = or_false (is_head_of f n h)

pub any_match : (f n : ℕ) (h : HeadKey) → is_of (Procedure f n) h ≡ can_match f n None h
any_match f n h = head_test f n h ∙ sym (and-true (is_head_of f n h))

pub key_match : (f n : ℕ) (k : NumberKey) (h : HeadKey) → (is_of (WithoutKey f n) h || is_of (WithKey f n k) h) ≡ can_match f n (Some k) h
key_match f n k h = by_key h.first
  where
    by_key : (o : Option NumberKey) → (same_class (class_by h.name h.arity o) (WithoutKey f n) || same_class (class_by h.name h.arity o) (WithKey f n k)) ≡ (is_head_of f n h && keys_match (Some k) o)
    by_key None = or_false (is_head_of f n h) ∙ sym (and-true (is_head_of f n h))
    by_key (Some l) = sym (and_assoc (h.name == f) (h.arity == n) (same_number_key l k))

pub keys_disjoint : (f n : ℕ) (k : NumberKey) (h : HeadKey) → (is_of (WithoutKey f n) h && is_of (WithKey f n k) h) ≡ false
keys_disjoint f n k h = by_key h.first
  where
    by_key : (o : Option NumberKey) → (same_class (class_by h.name h.arity o) (WithoutKey f n) && same_class (class_by h.name h.arity o) (WithKey f n k)) ≡ false
    by_key None = and-false (is_head_of f n h)
    by_key (Some l) = refl

-- a key is the same as itself
pub same_key_self : (k : NumberKey) → same_number_key k k ≡ true
same_key_self (Int z) = (Decides-int_eq z z).1 refl
same_key_self (Atom a) = number_same a
same_key_self (Functor f n) = ap (λ b. b && (n == n)) (number_same f) ∙ number_same n
