-- The clauses that a key allows, from the positions noted under it.
use Rattle.std.proofs.Common.{◌≡◌, ◌∙◌, ℕ, Bool, true, false, ◌||◌, cond, List, [], ◌∷◌, ◌++◌, map, filter, Option, Some, None, refl, sym, ap, ap₂, subst}
use Rattle.std.specs.Borrow.{Bor}
use Rattle.std.specs.Option.{option_copied, option_map, is_some, unwrap_or}
use Rattle.std.specs.List.{AllByRecursion, list_any}
use Rattle.std.specs.List.Sorted.{IsStrictlySortedBy}
use Rattle.std.specs.Ordering.{nat_cmp, is_eq, match_ordering, ordering_reverse}
use Rattle.std.specs.declared.cmp.Ordering.TheVariants.{Less, Greater}
use Rattle.std.specs.Cmp.{eq_by_cmp_equiv, nat_cmp_total, unsigned_ties}
use Rattle.std.specs.Map.{keys_of, lookup}
use Rattle.std.specs.BTreeMap.{BTreeMap, get, insert_entry, is_at}
use Rattle.std.specs.BTreeSet.{BTreeSet, contains}
use Rattle.std.proofs.lemmas.Map.Entries.{lookup-filter-values, option_filter}
use Rattle.std.proofs.lemmas.Map.Keys.{IsDistinct-from_sorted}
use Rattle.std.proofs.lemmas.Map.Lookups.{btree_set_from_contains, exact_unsigned}
use Rattle.au_term.proofs.LogicLemmas.{number_same}
use Rattle.run_model.specs.Programs.Clauses.{Clause as ClauseTerms}
use Rattle.proc_index.specs.declared.key.Key.{Key}
use Rattle.proc_index.specs.declared.key.Key.TheVariants.{Any, Int, Atom, Functor}
use Rattle.proc_index.specs.Keys.{head_key, is_any, may_match, same_key}
use Rattle.proc_index.specs.ProcedureIndex.{key_cmp}
use Rattle.proc_index.proofs.KeyLemmas.{all_match, key_tied, match_by_key}
use Rattle.dyn_clauses.specs.declared.procedure.KeyedClause.{KeyedClause}
use Rattle.dyn_clauses.specs.PositionIndex.{Index, Placed, entry_at, is_in, is_noted, matching_clauses, picked}
use Rattle.dyn_clauses.specs.KeyedClauses.{IsProcedure, clause_of_keyed, is_keyed, placed_clause, placed_entry}
use Rattle.dyn_clauses.proofs.EntryLemmas.{all_found, lookup_mapped}
use Rattle.dyn_clauses.proofs.ProcedureLemmas.{keys_placed, sorted_placed}

-- ---- a key that stands for all

pub all_matching : (key : Key) (es : Placed) → is_any key ≡ true → matching_clauses key es ≡ es
all_matching key [] a = refl
all_matching key (e ∷ es) a = ap (λ b. cond b (e ∷ matching_clauses key es) (matching_clauses key es)) (all_match key e.1.head a) ∙ ap (λ ds. e ∷ ds) (all_matching key es a)

-- ---- sorted entries that pass a test

abbrev at : ℕ → ℕ → Bool
at q p = is_at (nat_cmp q) p

abbrev pub passes : (ClauseTerms → Bool) → Option ClauseTerms → Bool
passes p o = is_some (option_filter p o)

any_key : {X : Type 0} (test : ℕ → Bool) (es : List (ℕ × X)) → list_any test (keys_of es) ≡ is_some (lookup test es)
any_key test [] = refl
any_key test (e ∷ es) = go (test e.0) (any_key test es)
  where
    go : (b : Bool) → list_any test (keys_of es) ≡ is_some (lookup test es) → b || list_any test (keys_of es) ≡ is_some (cond b (Some e.1) (lookup test es))
    go true h = refl
    go false h = h

all_kept : (P : ℕ → Type 0) (p : ClauseTerms → Bool) (es : Placed) → AllByRecursion P (keys_of es) → AllByRecursion P (keys_of (filter (λ e. p e.1) es))
all_kept P p [] h = tt
all_kept P p (e ∷ es) h = go (p e.1) (all_kept P p es h.1)
  where
    go : (b : Bool) → AllByRecursion P (keys_of (filter (λ d. p d.1) es)) → AllByRecursion P (keys_of (cond b (e ∷ filter (λ d. p d.1) es) (filter (λ d. p d.1) es)))
    go true k = (h.0, k)
    go false k = k

sorted_kept : (p : ClauseTerms → Bool) (es : Placed) → IsStrictlySortedBy nat_cmp (keys_of es) → IsStrictlySortedBy nat_cmp (keys_of (filter (λ e. p e.1) es))
unfolding IsStrictlySortedBy
sorted_kept p [] s = tt
sorted_kept p (e ∷ es) s = go (p e.1) (all_kept (λ k. nat_cmp e.0 k ≡ Less) p es s.0) (sorted_kept p es s.1)
  where
    go : (b : Bool) → AllByRecursion (λ k. nat_cmp e.0 k ≡ Less) (keys_of (filter (λ d. p d.1) es)) → IsStrictlySortedBy nat_cmp (keys_of (filter (λ d. p d.1) es))
        → IsStrictlySortedBy nat_cmp (keys_of (cond b (e ∷ filter (λ d. p d.1) es) (filter (λ d. p d.1) es)))
    go true a k = (a, k)
    go false a k = k

each_kept : (P : ℕ × ClauseTerms → Type 0) (p : ClauseTerms → Bool) (es : Placed) → AllByRecursion P es → AllByRecursion P (filter (λ e. p e.1) es)
each_kept P p [] h = tt
each_kept P p (e ∷ es) h = go (p e.1) (each_kept P p es h.1)
  where
    go : (b : Bool) → AllByRecursion P (filter (λ d. p d.1) es) → AllByRecursion P (cond b (e ∷ filter (λ d. p d.1) es) (filter (λ d. p d.1) es))
    go true k = (h.0, k)
    go false k = k

picked_keys : (es ds : Placed) → AllByRecursion (λ e. lookup (at e.0) es ≡ Some e.1) ds → picked (keys_of ds) es ≡ ds
picked_keys es [] h = refl
picked_keys es (d ∷ ds) h = ap₂ (λ (a b : Placed). a ++ b) (ap (entry_at d.0) h.0) (picked_keys es ds h.1)

further : (e : ℕ × ClauseTerms) (es ds : Placed) → AllByRecursion (λ k. nat_cmp e.0 k ≡ Less) (keys_of ds) → AllByRecursion (λ d. lookup (at d.0) es ≡ Some d.1) ds → AllByRecursion (λ d. lookup (at d.0) (e ∷ es) ≡ Some d.1) ds
further e es [] h f = tt
further e es (d ∷ ds) h f =
    let greater : nat_cmp d.0 e.0 ≡ Greater = nat_cmp_total.antisymm d.0 e.0 ∙ ap ordering_reverse h.0 in
    (ap (λ o. cond (is_eq o) (Some e.1) (lookup (at d.0) es)) greater ∙ f.0, further e es ds h.1 f.1)

-- each entry is found at its own position
pub found_each : (es : Placed) → IsStrictlySortedBy nat_cmp (keys_of es) → AllByRecursion (λ e. lookup (at e.0) es ≡ Some e.1) es
unfolding IsStrictlySortedBy
found_each [] s = tt
found_each (e ∷ es) s =
    (ap (λ b. cond b (Some e.1) (lookup (at e.0) es)) (sym (unsigned_ties e.0 e.0) ∙ number_same e.0), further e es es s.0 (found_each es s.1))

pub picked_passing : (p : ClauseTerms → Bool) (es : Placed) (ps : List ℕ) → IsStrictlySortedBy nat_cmp (keys_of es) → IsStrictlySortedBy nat_cmp ps → ((q : ℕ) → list_any (at q) ps ≡ passes p (lookup (at q) es))
    → picked ps es ≡ filter (λ e. p e.1) es
picked_passing p es ps s t h =
    let ds = filter (λ (e : ℕ × ClauseTerms). p e.1) es in
    let left : BTreeSet ℕ = record { keys = ps } in
    let right : BTreeSet ℕ = record { keys = keys_of ds } in
    let same : (q : ℕ) → contains nat_cmp left q ≡ contains nat_cmp right q =
    λ q. h q ∙ sym (any_key (at q) ds ∙ ap is_some (lookup-filter-values (eq_by_cmp_equiv nat_cmp_total) p q es (IsDistinct-from_sorted nat_cmp (keys_of es) s))) in
    let equal : ps ≡ keys_of ds = btree_set_from_contains nat_cmp_total left right t (sorted_kept p es s) same exact_unsigned in
    ap (λ qs. picked qs es) equal ∙ picked_keys es ds (each_kept (λ e. lookup (at e.0) es ≡ Some e.1) p es (found_each es s))

-- ---- by a key

keyed_matches : (own key : Key) → is_any key ≡ false → (is_at (key_cmp own) Any || is_at (key_cmp own) key) ≡ (is_any own || same_key key own)
keyed_matches Any key a = refl
keyed_matches (Int z) key a = key_tied (Int z) key refl
keyed_matches (Atom n) key a = key_tied (Atom n) key refl
keyed_matches (Functor f n) key a = key_tied (Functor f n) key refl

module _ (m : BTreeMap ℕ KeyedClause) (i : Index) (key : Key) (h : IsProcedure m i) (a : is_any key ≡ false) where
  may : ClauseTerms → Bool
  may c = may_match key c.head

  by_kept : (o : Option KeyedClause) → ((kept : KeyedClause) → Some kept ≡ o → kept.key ≡ head_key (clause_of_keyed kept).head) → (is_keyed o Any || is_keyed o key) ≡ passes may (option_map clause_of_keyed o)
  unfolding may
  by_kept None f = refl
  by_kept (Some kept) f =
      keyed_matches kept.key key a ∙ (ap (λ k. is_any k || same_key key k) (f kept refl) ∙ (sym (match_by_key key (clause_of_keyed kept).head a) ∙ filtered (may_match key (clause_of_keyed kept).head)))
    where
      filtered : (b : Bool) → b ≡ is_some (cond b (Some (clause_of_keyed kept)) None)
      filtered true = refl
      filtered false = refl

  pub picked_matching : (ps : List ℕ) → IsStrictlySortedBy nat_cmp ps → ((q : ℕ) → list_any (at q) ps ≡ (is_noted i Any q || is_noted i key q)) → picked ps (placed_clause m) ≡ matching_clauses key (placed_clause m)
  unfolding may
  picked_matching ps s noted =
      picked_passing may (placed_clause m) ps (sorted_placed m h.ordered) s (λ q.
      noted q ∙ (ap₂ (λ x y. x || y) (h.indexed Any q) (h.indexed key q)
      ∙ (by_kept (get nat_cmp m q) (λ kept e. all_found (λ k. k.key ≡ head_key (clause_of_keyed k).head) (at q) m.entries kept h.keyed e) ∙ ap (passes may) (sym (lookup_mapped clause_of_keyed (at q) m.entries)))))

-- ---- a copy

pub put_last : (xs : Placed) (q : ℕ) (c : ClauseTerms) → AllByRecursion (λ k. nat_cmp k q ≡ Less) (keys_of xs) → (lookup (at q) xs ≡ None) × (insert_entry nat_cmp xs q c ≡ xs ++ (q, c) ∷ [])
put_last [] q c h = (refl, refl)
put_last (e ∷ es) q c h =
    let r = put_last es q c h.1 in
    let greater : nat_cmp q e.0 ≡ Greater = nat_cmp_total.antisymm q e.0 ∙ ap ordering_reverse h.0 in
    (ap (λ o. cond (is_eq o) (Some e.1) (lookup (at q) es)) greater ∙ r.0, ap (λ o. match_ordering o ((q, c) ∷ e ∷ es) ((e.0, c) ∷ es) (e ∷ insert_entry nat_cmp es q c)) greater ∙ ap (λ (ds : Placed). e ∷ ds) r.1)

all_after : (P : ℕ → Type 0) (xs ys : List ℕ) → AllByRecursion P (xs ++ ys) → AllByRecursion P ys
all_after P [] ys h = h
all_after P (x ∷ xs) ys h = all_after P xs ys h.1

pub sorted_front : (xs ys : List ℕ) (q : ℕ) → IsStrictlySortedBy nat_cmp (xs ++ q ∷ ys) → AllByRecursion (λ k. nat_cmp k q ≡ Less) xs
unfolding IsStrictlySortedBy
sorted_front [] ys q s = tt
sorted_front (x ∷ xs) ys q s = ((all_after (λ k. nat_cmp x k ≡ Less) xs (q ∷ ys) s.0).0, sorted_front xs ys q s.1)

keys_append : (xs ys : List (ℕ × KeyedClause)) → keys_of (xs ++ ys) ≡ keys_of xs ++ keys_of ys
keys_append [] ys = refl
keys_append (x ∷ xs) ys = ap (λ ks. x.0 ∷ ks) (keys_append xs ys)

-- the entries so far are below the next one
pub below_next : (m : BTreeMap ℕ KeyedClause) (done rest : List (ℕ × KeyedClause)) (q : ℕ) (kept : KeyedClause) → IsStrictlySortedBy nat_cmp (keys_of m.entries) → m.entries ≡ done ++ (q, kept) ∷ rest → AllByRecursion (λ k. nat_cmp k q ≡ Less) (keys_of (map placed_entry done))
below_next m done rest q kept s e =
    subst (AllByRecursion (λ k. nat_cmp k q ≡ Less)) (sym (keys_placed done))
    (sorted_front (keys_of done) (keys_of rest) q (subst (IsStrictlySortedBy nat_cmp) (keys_append done ((q, kept) ∷ rest)) (subst (λ (es : List (ℕ × KeyedClause)). IsStrictlySortedBy nat_cmp (keys_of es)) e s)))

-- the positions that were found under a key, or none
pub positions_found : (o : Option (Bor (BTreeSet ℕ))) (none r : Bor (BTreeSet ℕ)) (p : Option (BTreeSet ℕ)) → r ≡ unwrap_or o none → none.now.keys ≡ [] → option_copied o ≡ p → (q : ℕ) → contains nat_cmp r.now q ≡ is_in p q
positions_found None none r p e empty v q = ap (λ (s : Bor (BTreeSet ℕ)). contains nat_cmp s.now q) e ∙ (ap (list_any (at q)) empty ∙ ap (λ o. is_in o q) v)
positions_found (Some s) none r p e empty v q = ap (λ (s : Bor (BTreeSet ℕ)). contains nat_cmp s.now q) e ∙ ap (λ o. is_in o q) v
