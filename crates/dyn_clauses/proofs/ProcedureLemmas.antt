-- The clauses of a procedure: put, taken, and found by their keys.
use Rattle.std.proofs.Common.{◌≡◌, ◌∙◌, ℕ, Bool, true, false, not, ◌&&◌, cond, List, [], ◌∷◌, ◌++◌, map, Some, None, refl, sym, ap, subst, append_assoc}
use Rattle.std.specs.Borrow.{Bor}
use Rattle.std.specs.Map.Iter.{deref, deref_pair}
use Rattle.std.specs.Option.{option_map, is_some}
use Rattle.std.specs.List.{AllByRecursion}
use Rattle.std.specs.List.Sorted.{IsStrictlySortedBy}
use Rattle.std.specs.Ordering.{nat_cmp, is_eq}
use Rattle.std.specs.declared.cmp.Ordering.TheVariants.{Less}
use Rattle.std.specs.Cmp.{unsigned_ties}
use Rattle.std.specs.Map.{keys_of, lookup, remove_entry}
use Rattle.std.specs.BTreeMap.{BTreeMap, get, IsOrdered, insert_entry, is_at}
use Rattle.au_term.proofs.LogicLemmas.{same_number}
use Rattle.proc_index.specs.declared.key.Key.{Key}
use Rattle.proc_index.specs.Keys.{head_key}
use Rattle.proc_index.specs.ProcedureIndex.{key_cmp}
use Rattle.dyn_clauses.specs.declared.procedure.KeyedClause.{KeyedClause}
use Rattle.dyn_clauses.specs.PositionIndex.{Index, Placed, entry_at, is_noted, is_place, numbered_clauses, numbered_entry, picked, without_position}
use Rattle.dyn_clauses.specs.KeyedClauses.{IsProcedure, clause_of_keyed, is_keyed, numbered_keyed, placed_clause, placed_entry}
use Rattle.dyn_clauses.proofs.EntryLemmas.{lookup_mapped, insert_mapped, remove_mapped, all_inserted, all_removed, none_mapped, some_mapped}

abbrev KeyedClauses : Type 0
KeyedClauses = BTreeMap ℕ KeyedClause

abbrev RightKey : KeyedClause → Type 0
RightKey kept = kept.key ≡ head_key (clause_of_keyed kept).head

pub at_same : (p q : ℕ) → is_at (nat_cmp p) q ≡ true → p ≡ q
at_same p q e = same_number p q (unsigned_ties p q ∙ e)

pub absent_is : (m : KeyedClauses) (q : ℕ) → lookup (is_at (nat_cmp q)) (placed_clause m) ≡ None → get nat_cmp m q ≡ None
absent_is m q e = none_mapped clause_of_keyed (get nat_cmp m q) (sym (lookup_mapped clause_of_keyed (is_at (nat_cmp q)) m.entries) ∙ e)

module _ (m n : KeyedClauses) (i j : Index) (q : ℕ) (key : Key) (h : IsProcedure m i) where
  pub put_is : (kept : KeyedClause) → kept.key ≡ key → RightKey kept → get nat_cmp m q ≡ None → n.entries ≡ insert_entry nat_cmp m.entries q kept → ((p : ℕ) → get nat_cmp n p ≡ cond (is_at (nat_cmp q) p) (Some kept) (get nat_cmp m p))
      → IsOrdered nat_cmp n → ((k : Key) (p : ℕ) → is_noted j k p ≡ cond (is_place key q k p) true (is_noted i k p)) → IsProcedure n j
  put_is kept own right none entries updates ordered noted = record {
    ordered = ordered;
    keyed = subst (AllByRecursion (λ (e : ℕ × KeyedClause). RightKey e.1)) (sym entries) (all_inserted RightKey nat_cmp m.entries q kept h.keyed right);
    indexed = λ k p. noted k p ∙ (go k p (is_at (nat_cmp q) p) (is_at (key_cmp key) k) refl refl ∙ sym (ap (λ o. is_keyed o k) (updates p)));
  }
    where
      go : (k : Key) (p : ℕ) (b c : Bool) → is_at (nat_cmp q) p ≡ b → is_at (key_cmp key) k ≡ c → cond (c && b) true (is_noted i k p) ≡ is_keyed (cond b (Some kept) (get nat_cmp m p)) k
      go k p true true e f = sym (ap (λ x. is_at (key_cmp x) k) own ∙ f)
      go k p true false e f = h.indexed k p ∙ (ap (λ o. is_keyed o k) (ap (get nat_cmp m) (sym (at_same q p e)) ∙ none) ∙ sym (ap (λ x. is_at (key_cmp x) k) own ∙ f))
      go k p false true e f = h.indexed k p
      go k p false false e f = h.indexed k p

  pub take_is : (kept : KeyedClause) → kept.key ≡ key → get nat_cmp m q ≡ Some kept → n.entries ≡ remove_entry (is_at (nat_cmp q)) m.entries → ((p : ℕ) → get nat_cmp n p ≡ cond (is_at (nat_cmp q) p) None (get nat_cmp m p))
      → IsOrdered nat_cmp n → ((k : Key) (p : ℕ) → is_noted j k p ≡ cond (is_place key q k p) false (is_noted i k p)) → IsProcedure n j
  take_is kept own there entries updates ordered noted = record {
    ordered = ordered;
    keyed = subst (AllByRecursion (λ (e : ℕ × KeyedClause). RightKey e.1)) (sym entries) (all_removed RightKey (is_at (nat_cmp q)) m.entries h.keyed);
    indexed = λ k p. noted k p ∙ (go k p (is_at (nat_cmp q) p) (is_at (key_cmp key) k) refl refl ∙ sym (ap (λ o. is_keyed o k) (updates p)));
  }
    where
      go : (k : Key) (p : ℕ) (b c : Bool) → is_at (nat_cmp q) p ≡ b → is_at (key_cmp key) k ≡ c → cond (c && b) false (is_noted i k p) ≡ is_keyed (cond b None (get nat_cmp m p)) k
      go k p true true e f = refl
      go k p true false e f = h.indexed k p ∙ (ap (λ o. is_keyed o k) (ap (get nat_cmp m) (sym (at_same q p e)) ∙ there) ∙ (ap (λ x. is_at (key_cmp x) k) own ∙ f))
      go k p false true e f = h.indexed k p
      go k p false false e f = h.indexed k p

  -- a position noted and taken away again
  pub restored : (mid : Index) → get nat_cmp m q ≡ None → ((k : Key) (p : ℕ) → is_noted mid k p ≡ cond (is_place key q k p) true (is_noted i k p)) → ((k : Key) (p : ℕ) → is_noted j k p ≡ cond (is_place key q k p) false (is_noted mid k p))
      → (k : Key) (p : ℕ) → is_noted j k p ≡ is_noted i k p
  restored mid none noted gone k p = gone k p ∙ go (is_at (key_cmp key) k) (is_at (nat_cmp q) p) refl (noted k p)
    where
      go : (c b : Bool) → is_at (nat_cmp q) p ≡ b → is_noted mid k p ≡ cond (c && b) true (is_noted i k p) → cond (c && b) false (is_noted mid k p) ≡ is_noted i k p
      go true true e f = sym (h.indexed k p ∙ ap (λ o. is_keyed o k) (ap (get nat_cmp m) (sym (at_same q p e)) ∙ none))
      go true false e f = f
      go false b e f = f

-- the same clauses and notes
pub procedure_kept : (m n : KeyedClauses) (i j : Index) → IsProcedure m i → n.entries ≡ m.entries → ((k : Key) (p : ℕ) → is_noted j k p ≡ is_noted i k p) → IsProcedure n j
procedure_kept m n i j h same noted = record {
  ordered = subst (λ (es : List (ℕ × KeyedClause)). IsStrictlySortedBy nat_cmp (keys_of es)) (sym same) h.ordered;
  keyed = subst (AllByRecursion (λ (e : ℕ × KeyedClause). RightKey e.1)) (sym same) h.keyed;
  indexed = λ k p. noted k p ∙ (h.indexed k p ∙ ap (λ (es : List (ℕ × KeyedClause)). is_keyed (lookup (is_at (nat_cmp p)) es) k) (sym same));
}

pub put_placed : (m n : KeyedClauses) (q : ℕ) (kept : KeyedClause) → n.entries ≡ insert_entry nat_cmp m.entries q kept → placed_clause n ≡ insert_entry nat_cmp (placed_clause m) q (clause_of_keyed kept)
put_placed m n q kept e = ap (map placed_entry) e ∙ insert_mapped clause_of_keyed nat_cmp m.entries q kept

none_at : (q : ℕ) (es : Placed) → AllByRecursion (λ k. nat_cmp q k ≡ Less) (keys_of es) → without_position q es ≡ es
none_at q [] h = refl
none_at q (e ∷ es) h = ap (λ o. cond (not (is_eq o)) (e ∷ without_position q es) (without_position q es)) h.0 ∙ ap (λ (ds : Placed). e ∷ ds) (none_at q es h.1)

-- positions differ
removed_is : (q : ℕ) (es : Placed) → IsStrictlySortedBy nat_cmp (keys_of es) → remove_entry (is_at (nat_cmp q)) es ≡ without_position q es
unfolding IsStrictlySortedBy
removed_is q [] s = refl
removed_is q (e ∷ es) s = go (is_at (nat_cmp q) e.0) refl (removed_is q es s.1)
  where
    go : (b : Bool) → is_at (nat_cmp q) e.0 ≡ b → remove_entry (is_at (nat_cmp q)) es ≡ without_position q es → cond b es (e ∷ remove_entry (is_at (nat_cmp q)) es) ≡ cond (not b) (e ∷ without_position q es) (without_position q es)
    go true h k = sym (none_at q es (subst (λ p. AllByRecursion (λ k. nat_cmp p k ≡ Less) (keys_of es)) (sym (at_same q e.0 h)) s.0))
    go false h k = ap (λ (ds : Placed). e ∷ ds) k

pub keys_placed : (es : List (ℕ × KeyedClause)) → keys_of (map placed_entry es) ≡ keys_of es
keys_placed [] = refl
keys_placed (e ∷ es) = ap (λ ks. e.0 ∷ ks) (keys_placed es)

pub sorted_placed : (m : KeyedClauses) → IsStrictlySortedBy nat_cmp (keys_of m.entries) → IsStrictlySortedBy nat_cmp (keys_of (placed_clause m))
sorted_placed m s = subst (IsStrictlySortedBy nat_cmp) (sym (keys_placed m.entries)) s

pub take_placed : (m n : KeyedClauses) (q : ℕ) → IsOrdered nat_cmp m → n.entries ≡ remove_entry (is_at (nat_cmp q)) m.entries → placed_clause n ≡ without_position q (placed_clause m)
take_placed m n q s e = ap (map placed_entry) e ∙ (remove_mapped clause_of_keyed (is_at (nat_cmp q)) m.entries ∙ removed_is q (placed_clause m) (sorted_placed m s))

pub found_placed : (m : KeyedClauses) (q : ℕ) → is_some (lookup (is_at (nat_cmp q)) (placed_clause m)) ≡ is_some (get nat_cmp m q)
found_placed m q = ap is_some (lookup_mapped clause_of_keyed (is_at (nat_cmp q)) m.entries) ∙ some_mapped clause_of_keyed (get nat_cmp m q)

-- ---- clauses one after another

pub numbered_push : (ys : List (Bor ℕ × Bor KeyedClause)) (p : Bor ℕ) (kept : Bor KeyedClause)
    → numbered_clauses (map placed_entry (map deref_pair (ys ++ (p, kept) ∷ []))) ≡ numbered_clauses (map placed_entry (map deref_pair ys)) ++ numbered_keyed p.now kept.now ∷ []
numbered_push [] p kept = refl
numbered_push (y ∷ ys) p kept = ap (λ cs. numbered_keyed y.0.now y.1.now ∷ cs) (numbered_push ys p kept)

pub placed_push : (ys : List (Bor ℕ × Bor KeyedClause)) (p : Bor ℕ) (kept : Bor KeyedClause) → map placed_entry (map deref_pair (ys ++ (p, kept) ∷ [])) ≡ map placed_entry (map deref_pair ys) ++ (p.now, clause_of_keyed kept.now) ∷ []
placed_push [] p kept = refl
placed_push (y ∷ ys) p kept = ap (λ (es : Placed). (y.0.now, clause_of_keyed y.1.now) ∷ es) (placed_push ys p kept)

numbered_append : (xs ys : Placed) → numbered_clauses (xs ++ ys) ≡ numbered_clauses xs ++ numbered_clauses ys
numbered_append [] ys = refl
numbered_append (x ∷ xs) ys = ap (λ cs. numbered_entry x ∷ cs) (numbered_append xs ys)

picked_append : (ps qs : List ℕ) (es : Placed) → picked (ps ++ qs) es ≡ picked ps es ++ picked qs es
picked_append [] qs es = refl
picked_append (p ∷ ps) qs es = ap (λ (ds : Placed). entry_at p (lookup (is_at (nat_cmp p)) es) ++ ds) (picked_append ps qs es) ∙ sym (append_assoc (entry_at p (lookup (is_at (nat_cmp p)) es)) (picked ps es) (picked qs es))

deref_push : (ys : List (Bor ℕ)) (p : Bor ℕ) → map deref (ys ++ p ∷ []) ≡ map deref ys ++ p.now ∷ []
deref_push [] p = refl
deref_push (y ∷ ys) p = ap (λ ps. y.now ∷ ps) (deref_push ys p)

pub picked_push : (ys : List (Bor ℕ)) (p : Bor ℕ) (es : Placed) → numbered_clauses (picked (map deref (ys ++ p ∷ [])) es) ≡ numbered_clauses (picked (map deref ys) es) ++ numbered_clauses (picked (p.now ∷ []) es)
picked_push ys p es =
    ap (λ ps. numbered_clauses (picked ps es)) (deref_push ys p)
    ∙ (ap numbered_clauses (picked_append (map deref ys) (p.now ∷ []) es) ∙ numbered_append (picked (map deref ys) es) (picked (p.now ∷ []) es))

pub picked_one : (m : KeyedClauses) (q : ℕ) (kept : KeyedClause) → Some kept ≡ get nat_cmp m q → picked (q ∷ []) (placed_clause m) ≡ (q, clause_of_keyed kept) ∷ []
picked_one m q kept e = ap (λ o. entry_at q o ++ []) (lookup_mapped clause_of_keyed (is_at (nat_cmp q)) m.entries ∙ ap (option_map clause_of_keyed) (sym e))

pub picked_none : (m : KeyedClauses) (q : ℕ) → None ≡ get nat_cmp m q → picked (q ∷ []) (placed_clause m) ≡ []
picked_none m q e = ap (λ o. entry_at q o ++ []) (lookup_mapped clause_of_keyed (is_at (nat_cmp q)) m.entries ∙ ap (option_map clause_of_keyed) (sym e))
