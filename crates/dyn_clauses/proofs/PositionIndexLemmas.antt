-- Positions noted under keys, and taken from under them.
use Rattle.std.proofs.Common.{◌≡◌, ◌∙◌, ℕ, Bool, true, false, ◌&&◌, cond, Option, Some, None, Result, Ok, Err, refl, sym, ap}
use Rattle.std.specs.Prelude.{IsSome, OnErr}
use Rattle.std.specs.Option.{is_some}
use Rattle.std.specs.Ordering.{nat_cmp}
use Rattle.std.specs.BTreeMap.{get, is_at}
use Rattle.std.specs.BTreeSet.{BTreeSet, contains, btree_set_len}
use Rattle.std.specs.List.{list_any}
use Rattle.std.proofs.lemmas.List.{nil_from_length}
use Rattle.proc_index.specs.declared.key.Key.{Key}
use Rattle.proc_index.specs.declared.key.Key.TheVariants.{Any, Int, Atom, Functor}
use Rattle.proc_index.specs.ProcedureIndex.{key_cmp}
use Rattle.proc_index.proofs.KeyLemmas.{key_tied, same_key_is}
use Rattle.dyn_clauses.specs.PositionIndex.{Index, is_in, is_noted, is_place}

-- keys that the order can't tell apart are the same
pub key_same : (j k : Key) → is_at (key_cmp j) k ≡ true → j ≡ k
key_same Any Any e = refl
key_same Any (Int z) e = absurd cc
key_same Any (Atom a) e = absurd cc
key_same Any (Functor f n) e = absurd cc
key_same (Int z) k e = sym (same_key_is k (Int z) (sym (key_tied (Int z) k refl) ∙ e))
key_same (Atom a) k e = sym (same_key_is k (Atom a) (sym (key_tied (Atom a) k refl) ∙ e))
key_same (Functor f n) k e = sym (same_key_is k (Functor f n) (sym (key_tied (Functor f n) k refl) ∙ e))

pub on_err : {X E : Type 0} (r : Result X E) (P : Type 0) → P → OnErr r P
on_err (Ok x) P p = tt
on_err (Err e) P p = p

module _ (m n : Index) (key : Key) (position : ℕ) where
  -- the positions under a key are others
  pub noted_set : (o : Option (BTreeSet ℕ)) (w : BTreeSet ℕ) (b : Bool) → o ≡ get key_cmp m key → ((k : Key) → get key_cmp n k ≡ cond (is_at (key_cmp key) k) (Some w) (get key_cmp m k))
      → ((q : ℕ) → contains nat_cmp w q ≡ cond (is_at (nat_cmp position) q) b (is_in o q)) → (k : Key) (q : ℕ) → is_noted n k q ≡ cond (is_place key position k q) b (is_noted m k q)
  noted_set o w b there set now k q = go (is_at (key_cmp key) k) refl
    where
      go : (c : Bool) → is_at (key_cmp key) k ≡ c → is_noted n k q ≡ cond (c && is_at (nat_cmp position) q) b (is_noted m k q)
      go true e =
          ap (λ p. is_in p q) (set k ∙ ap (λ c. cond c (Some w) (get key_cmp m k)) e)
          ∙ (now q ∙ ap (λ p. cond (is_at (nat_cmp position) q) b (is_in p q)) (there ∙ ap (get key_cmp m) (key_same key k e)))
      go false e = ap (λ p. is_in p q) (set k ∙ ap (λ c. cond c (Some w) (get key_cmp m k)) e)

  -- they are the same
  pub noted_kept : (s w : BTreeSet ℕ) → Some s ≡ get key_cmp m key → ((k : Key) → get key_cmp n k ≡ cond (is_at (key_cmp key) k) (Some w) (get key_cmp m k)) → w.keys ≡ s.keys → (k : Key) (q : ℕ) → is_noted n k q ≡ is_noted m k q
  noted_kept s w there set same k q = go (is_at (key_cmp key) k) refl
    where
      go : (c : Bool) → is_at (key_cmp key) k ≡ c → is_noted n k q ≡ is_noted m k q
      go true e =
          ap (λ p. is_in p q) (set k ∙ ap (λ c. cond c (Some w) (get key_cmp m k)) e)
          ∙ (ap (list_any (is_at (nat_cmp q))) same ∙ ap (λ p. is_in p q) (there ∙ ap (get key_cmp m) (key_same key k e)))
      go false e = ap (λ p. is_in p q) (set k ∙ ap (λ c. cond c (Some w) (get key_cmp m k)) e)

  -- the key goes with its last position
  pub noted_dropped : (mid : Index) (s w : BTreeSet ℕ) → Some s ≡ get key_cmp m key → ((k : Key) → get key_cmp mid k ≡ cond (is_at (key_cmp key) k) (Some w) (get key_cmp m k))
      → ((q : ℕ) → contains nat_cmp w q ≡ cond (is_at (nat_cmp position) q) false (contains nat_cmp s q)) → btree_set_len w ≡ 0 → ((k : Key) → get key_cmp n k ≡ cond (is_at (key_cmp key) k) None (get key_cmp mid k))
      → (k : Key) (q : ℕ) → is_noted n k q ≡ cond (is_place key position k q) false (is_noted m k q)
  noted_dropped mid s w there set now empty gone k q = go (is_at (key_cmp key) k) refl
    where
      go : (c : Bool) → is_at (key_cmp key) k ≡ c → is_noted n k q ≡ cond (c && is_at (nat_cmp position) q) false (is_noted m k q)
      go true e =
          let here = there ∙ ap (get key_cmp m) (key_same key k e) in
          ap (λ p. is_in p q) (gone k ∙ ap (λ c. cond c None (get key_cmp mid k)) e)
          ∙ (sym (ap (list_any (is_at (nat_cmp q))) (nil_from_length w.keys empty)) ∙ (now q ∙ ap (λ p. cond (is_at (nat_cmp position) q) false (is_in p q)) here))
      go false e =
          ap (λ p. is_in p q) (gone k ∙ (ap (λ c. cond c None (get key_cmp mid k)) e ∙ (set k ∙ ap (λ c. cond c (Some w) (get key_cmp m k)) e)))

  -- no position is under the key
  pub noted_none : None ≡ get key_cmp m key → n ≡ m → (k : Key) (q : ℕ) → is_noted n k q ≡ cond (is_place key position k q) false (is_noted m k q)
  noted_none there same k q = ap (λ i. is_noted i k q) same ∙ go (is_at (key_cmp key) k) (is_at (nat_cmp position) q) refl
    where
      go : (c d : Bool) → is_at (key_cmp key) k ≡ c → is_noted m k q ≡ cond (c && d) false (is_noted m k q)
      go true true e = ap (λ p. is_in p q) (sym (there ∙ ap (get key_cmp m) (key_same key k e)))
      go true false e = refl
      go false d e = refl

pub some_there : {X : Type 0} (x : X) (o : Option X) → Some x ≡ o → IsSome o
some_there x o e = ap is_some (sym e)
