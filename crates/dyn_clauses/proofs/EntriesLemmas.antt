-- The entries of procedures: found, changed, and without a clause.
use Rattle.std.proofs.Common.{◌≡◌, ◌∙◌, ℕ, Bool, true, false, not, ◌&&◌, ◌||◌, ◌==◌, cond, List, [], ◌∷◌, ◌++◌, filter, find, Option, Some, None, refl, sym, ap, ap₂, subst}
use Rattle.std.specs.Prelude.{IsSome, Result, Ok, Err, OnOk, OnErr}
use Rattle.std.specs.Option.{option_map}
use Rattle.std.specs.List.{AllByRecursion, list_any}
use Rattle.std.specs.List.Sorted.{IsStrictlySortedBy}
use Rattle.std.specs.Ordering.{nat_cmp, is_eq, match_ordering, ordering_reverse}
use Rattle.std.specs.declared.cmp.Ordering.{Ordering}
use Rattle.std.specs.declared.cmp.Ordering.TheVariants.{Less, Equal, Greater}
use Rattle.std.specs.Cmp.{IsTotalOrder, both_tied, eq_by_cmp_equiv, unsigned_ties}
use Rattle.std.specs.Cmp.Lexicographic.{slice_cmp, nat_list_eq_equiv, same_text, texts_ties}
use Rattle.std.specs.Map.{keys_of, lookup, remove_entry, set_value}
use Rattle.std.specs.BTreeMap.{BTreeMap, get, insert_entry, is_at}
use Rattle.std.proofs.lemmas.Map.{NonePasses, lookup-none, none_passes_from_lookup}
use Rattle.std.proofs.lemmas.Map.Entries.{lookup-filter-keys, none_below_head, none_past_head}
use Rattle.std.proofs.lemmas.Map.Keys.{IsDistinct-from_sorted}
use Rattle.au_term.proofs.LogicLemmas.{both as both_true, false_true, number_same, number_turned, same_number}
use Rattle.au_term.proofs.OptionLemmas.{some_cond}
use Rattle.au_model.specs.Terms.Forms.{same_name}
use Rattle.run_model.specs.Programs.Clauses.{Clause as ClauseTerms}
use Rattle.run_model.specs.Programs.Databases.{NumberedClause, DynamicProcedure, is_procedure}
use Rattle.run_model.specs.Programs.DatabaseChanges.{procedure_placed, with_procedure}
use Rattle.dyn_clauses.specs.declared.indicator.Indicator.{Indicator}
use Rattle.dyn_clauses.specs.contracts.indicator.IndicatorOrd.TheImpl.Laws as indicator_laws
use Rattle.dyn_clauses.specs.PositionIndex.{Placed, numbered_clauses, without_position}
use Rattle.dyn_clauses.specs.DatabaseView.{Entries, clause_at, clause_in, entry_placed, indicator_cmp, is_spot, is_static, procedure_meant, procedures_meant, with_entry, without_spot}
use Rattle.dyn_clauses.proofs.ProcedureLemmas.{at_same}

pub indicators_total : IsTotalOrder indicator_cmp
indicators_total = indicator_laws.total-law

abbrev at : Indicator → Indicator → Bool
at i j = is_at (indicator_cmp i) j

abbrev pos_at : ℕ → ℕ → Bool
pos_at q p = is_at (nat_cmp q) p

abbrev Sorted : Entries → Type 0
Sorted es = IsStrictlySortedBy indicator_cmp (keys_of es)

pub at_is : (i j : Indicator) → at i j ≡ (same_name i.name j.name && i.arity == j.arity)
at_is i j = sym (both_tied _ _ (slice_cmp nat_cmp i.name j.name) (nat_cmp i.arity j.arity) (texts_ties i.name j.name) (unsigned_ties i.arity j.arity))

pub static_is : (i : Indicator) (ks : List Indicator) → list_any (at i) ks ≡ is_static ks i
static_is i [] = refl
static_is i (k ∷ ks) = ap₂ (λ x y. x || y) (at_is i k) (static_is i ks)

pub same_indicator : (i j : Indicator) → at i j ≡ true → i ≡ j
same_indicator i j e =
    let parts = both_true (same_name i.name j.name) (i.arity == j.arity) (sym (at_is i j) ∙ e) in
    ap₂ (λ (n : List ℕ) (a : ℕ). record { name = n; arity = a }) (same_text i.name j.name (sym parts.0)) (same_number i.arity j.arity parts.1)

pub at_self : (i : Indicator) → at i i ≡ true
at_self i = (eq_by_cmp_equiv indicators_total).refl i

tail_none : (i : Indicator) (e : Indicator × Placed) (es : Entries) → Sorted (e ∷ es) → at i e.0 ≡ true → NonePasses (at i) es
tail_none i e es s h = none_past_head (eq_by_cmp_equiv indicators_total) i e es (IsDistinct-from_sorted indicator_cmp (keys_of (e ∷ es)) s) h

below_none : (i : Indicator) (e : Indicator × Placed) (es : Entries) (ps : Placed) → Sorted (e ∷ es) → indicator_cmp i e.0 ≡ Less → lookup (at i) es ≡ Some ps → ⊥
below_none i e es ps s h l =
    let none = lookup-none (at i) (e ∷ es) (none_below_head indicators_total i e es s h) in
    let gone : lookup (at i) es ≡ None = ap (λ o. cond (is_eq o) (Some e.1) (lookup (at i) es)) (sym h) ∙ none in
    no_way gone l
  where
    no_way : {X : Type 0} {o : Option X} {x : X} → o ≡ None → o ≡ Some x → ⊥
    no_way a b = cc

module _ (f : Placed → Placed) (i : Indicator) where
  pub with_there : (es : Entries) (ps : Placed) → Sorted es → lookup (at i) es ≡ Some ps → set_value (at i) es (f ps) ≡ with_entry f i es
  unfolding IsStrictlySortedBy
  with_there [] ps s l = absurd cc
  with_there (e ∷ es) ps s l = go (indicator_cmp i e.0) refl l (with_there es ps s.1)
    where
      go : (o : Ordering) → indicator_cmp i e.0 ≡ o → cond (is_eq o) (Some e.1) (lookup (at i) es) ≡ Some ps → (lookup (at i) es ≡ Some ps → set_value (at i) es (f ps) ≡ with_entry f i es)
          → cond (is_eq o) ((e.0, f ps) ∷ es) (e ∷ set_value (at i) es (f ps)) ≡ entry_placed o f i e es (with_entry f i es)
      go Less h k r = absurd (below_none i e es ps s h k)
      go Equal h k r = let same : e.1 ≡ ps = cc in ap (λ (qs : Placed). (e.0, f qs) ∷ es) (sym same)
      go Greater h k r = ap (λ (ds : Entries). e ∷ ds) (r k)

  pub with_absent : (es : Entries) → lookup (at i) es ≡ None → insert_entry indicator_cmp es i (f []) ≡ with_entry f i es
  with_absent [] l = refl
  with_absent (e ∷ es) l = go (indicator_cmp i e.0) l (with_absent es)
    where
      go : (o : Ordering) → cond (is_eq o) (Some e.1) (lookup (at i) es) ≡ None → (lookup (at i) es ≡ None → insert_entry indicator_cmp es i (f []) ≡ with_entry f i es)
          → match_ordering o ((i, f []) ∷ e ∷ es) ((e.0, f []) ∷ es) (e ∷ insert_entry indicator_cmp es i (f [])) ≡ entry_placed o f i e es (with_entry f i es)
      go Less k r = refl
      go Equal k r = absurd cc
      go Greater k r = ap (λ (ds : Entries). e ∷ ds) (r k)

  pub meant_with : (g : List NumberedClause → List NumberedClause) (es : Entries) → numbered_clauses (f []) ≡ g [] → ((ps : Placed) → lookup (at i) es ≡ Some ps → numbered_clauses (f ps) ≡ g (numbered_clauses ps))
      → procedures_meant (with_entry f i es) ≡ with_procedure g i.name i.arity (procedures_meant es)
  meant_with g [] n h = ap (λ cs. (record { name = i.name; arity = i.arity; clauses = cs }) ∷ []) n
  meant_with g (e ∷ es) n h = go (indicator_cmp i e.0) (λ ps k. h ps k) (meant_with g es n)
    where
      go : (o : Ordering) → ((ps : Placed) → cond (is_eq o) (Some e.1) (lookup (at i) es) ≡ Some ps → numbered_clauses (f ps) ≡ g (numbered_clauses ps))
          → (((ps : Placed) → lookup (at i) es ≡ Some ps → numbered_clauses (f ps) ≡ g (numbered_clauses ps)) → procedures_meant (with_entry f i es) ≡ with_procedure g i.name i.arity (procedures_meant es))
          → procedures_meant (entry_placed o f i e es (with_entry f i es)) ≡ procedure_placed o g i.name i.arity (procedure_meant e) (procedures_meant es) (with_procedure g i.name i.arity (procedures_meant es))
      go Less k r = ap (λ cs. (record { name = i.name; arity = i.arity; clauses = cs }) ∷ procedure_meant e ∷ procedures_meant es) n
      go Equal k r = ap (λ cs. (record { name = e.0.name; arity = e.0.arity; clauses = cs }) ∷ procedures_meant es) (k e.1 refl)
      go Greater k r = ap (λ (ds : List DynamicProcedure). procedure_meant e ∷ ds) (r k)

pub with_same : (i : Indicator) (es : Entries) (ps : Placed) → Sorted es → lookup (at i) es ≡ Some ps → es ≡ with_entry (λ qs. qs) i es
unfolding IsStrictlySortedBy
with_same i [] ps s l = absurd cc
with_same i (e ∷ es) ps s l = go (indicator_cmp i e.0) refl l (with_same i es ps s.1)
  where
    go : (o : Ordering) → indicator_cmp i e.0 ≡ o → cond (is_eq o) (Some e.1) (lookup (at i) es) ≡ Some ps → (lookup (at i) es ≡ Some ps → es ≡ with_entry (λ qs. qs) i es)
        → e ∷ es ≡ entry_placed o (λ qs. qs) i e es (with_entry (λ qs. qs) i es)
    go Less h k r = absurd (below_none i e es ps s h k)
    go Equal h k r = refl
    go Greater h k r = ap (λ (ds : Entries). e ∷ ds) (r k)

-- ---- without a clause

module _ (i : Indicator) (q : ℕ) where
  pub without_absent : (es : Entries) → NonePasses (at i) es → without_spot i q es ≡ es
  without_absent [] h = refl
  without_absent (e ∷ es) h = ap₂ (λ (ps : Placed) (ds : Entries). (e.0, ps) ∷ ds) (ap (λ b. cond b (without_position q e.1) e.1) h.0) (without_absent es h.1)

  pub without_there : (es : Entries) (ps : Placed) → Sorted es → lookup (at i) es ≡ Some ps → set_value (at i) es (without_position q ps) ≡ without_spot i q es
  unfolding IsStrictlySortedBy
  without_there [] ps s l = absurd cc
  without_there (e ∷ es) ps s l = go (at i e.0) refl l (without_there es ps s.1)
    where
      go : (b : Bool) → at i e.0 ≡ b → cond b (Some e.1) (lookup (at i) es) ≡ Some ps → (lookup (at i) es ≡ Some ps → set_value (at i) es (without_position q ps) ≡ without_spot i q es)
          → cond b ((e.0, without_position q ps) ∷ es) (e ∷ set_value (at i) es (without_position q ps)) ≡ (e.0, cond b (without_position q e.1) e.1) ∷ without_spot i q es
      go true h k r = let same : e.1 ≡ ps = cc in ap₂ (λ (qs : Placed) (ds : Entries). (e.0, without_position q qs) ∷ ds) (sym same) (sym (without_absent es (tail_none i e es s h)))
      go false h k r = ap (λ (ds : Entries). e ∷ ds) (r k)

-- ---- clauses at positions

turned : (p q : ℕ) → pos_at p q ≡ pos_at q p
turned p q = sym (unsigned_ties p q) ∙ (number_turned p q ∙ unsigned_ties q p)

pub lookup_inserted : (p q : ℕ) (c : ClauseTerms) (ps : Placed) → lookup (pos_at p) (insert_entry nat_cmp ps q c) ≡ cond (pos_at q p) (Some c) (lookup (pos_at p) ps)
lookup_inserted p q c [] = ap (λ b. cond b (Some c) None) (turned p q)
lookup_inserted p q c (e ∷ ps) = go (nat_cmp q e.0) refl (pos_at p e.0) (pos_at q p) refl refl (lookup_inserted p q c ps)
  where
    go : (o : Ordering) → nat_cmp q e.0 ≡ o → (x y : Bool) → pos_at p e.0 ≡ x → pos_at q p ≡ y → lookup (pos_at p) (insert_entry nat_cmp ps q c) ≡ cond y (Some c) (lookup (pos_at p) ps)
        → lookup (pos_at p) (match_ordering o ((q, c) ∷ e ∷ ps) ((e.0, c) ∷ ps) (e ∷ insert_entry nat_cmp ps q c)) ≡ cond y (Some c) (cond x (Some e.1) (lookup (pos_at p) ps))
    go Less h x y i j r = ap₂ (λ a b. cond a (Some c) (cond b (Some e.1) (lookup (pos_at p) ps))) (turned p q ∙ j) i
    go Equal h x y i j r =
        let same : q ≡ e.0 = at_same q e.0 (ap is_eq h) in
        let tied : x ≡ y = sym i ∙ (ap (pos_at p) (sym same) ∙ (turned p q ∙ j)) in
        ap (λ b. cond b (Some c) (lookup (pos_at p) ps)) i ∙ by x y tied
      where
        by : (a b : Bool) → a ≡ b → cond a (Some c) (lookup (pos_at p) ps) ≡ cond b (Some c) (cond a (Some e.1) (lookup (pos_at p) ps))
        by true true k = refl
        by false false k = refl
        by true false k = absurd cc
        by false true k = absurd cc
    go Greater h true true i j r =
        let here : p ≡ e.0 = at_same p e.0 i in
        let there : q ≡ p = at_same q p j in
        let no : is_eq Greater ≡ true = ap is_eq (sym h) ∙ (ap (λ k. pos_at k e.0) there ∙ i) in
        false_true no
    go Greater h true false i j r = ap (λ b. cond b (Some e.1) (lookup (pos_at p) (insert_entry nat_cmp ps q c))) i
    go Greater h false true i j r = ap (λ b. cond b (Some e.1) (lookup (pos_at p) (insert_entry nat_cmp ps q c))) i ∙ r
    go Greater h false false i j r = ap (λ b. cond b (Some e.1) (lookup (pos_at p) (insert_entry nat_cmp ps q c))) i ∙ r

pub lookup_without : (p q : ℕ) (ps : Placed) → lookup (pos_at p) (without_position q ps) ≡ cond (pos_at q p) None (lookup (pos_at p) ps)
lookup_without p q ps = lookup-filter-keys (pos_at p) (λ k. not (pos_at q k)) (not (pos_at q p)) (λ k h. ap (λ x. not (pos_at q x)) (sym (at_same p k h))) ps ∙ by (pos_at q p)
  where
    by : (b : Bool) → cond (not b) (lookup (pos_at p) ps) None ≡ cond b None (lookup (pos_at p) ps)
    by true = refl
    by false = refl

-- one procedure has other clauses
pub clauses_set : (m n : BTreeMap Indicator Placed) (i : Indicator) (ws : Placed) → ((j : Indicator) → get indicator_cmp n j ≡ cond (at i j) (Some ws) (get indicator_cmp m j))
    → (j : Indicator) (p : ℕ) → clause_at n.entries j p ≡ cond (at i j) (lookup (pos_at p) ws) (clause_at m.entries j p)
clauses_set m n i ws set j p = ap (λ o. clause_in o p) (set j) ∙ by (at i j)
  where
    by : (b : Bool) → clause_in (cond b (Some ws) (get indicator_cmp m j)) p ≡ cond b (lookup (pos_at p) ws) (clause_at m.entries j p)
    by true = refl
    by false = refl

-- the clauses of one procedure changed at one position
pub spot_set : (m n : BTreeMap Indicator Placed) (i : Indicator) (q : ℕ) (x : Option ClauseTerms) (old : Option Placed) (ws : Placed) → old ≡ get indicator_cmp m i → ((j : Indicator) → get indicator_cmp n j ≡ cond (at i j) (Some ws) (get indicator_cmp m j))
    → ((p : ℕ) → lookup (pos_at p) ws ≡ cond (pos_at q p) x (clause_in old p)) → (j : Indicator) (p : ℕ) → clause_at n.entries j p ≡ cond (is_spot i q j p) x (clause_at m.entries j p)
spot_set m n i q x old ws there set now j p = clauses_set m n i ws set j p ∙ go (at i j) refl
  where
    go : (b : Bool) → at i j ≡ b → cond b (lookup (pos_at p) ws) (clause_at m.entries j p) ≡ cond (b && pos_at q p) x (clause_at m.entries j p)
    go true h = now p ∙ ap (λ o. cond (pos_at q p) x (clause_in o p)) (there ∙ ap (get indicator_cmp m) (same_indicator i j h))
    go false h = refl

pub spot_none : (m n : BTreeMap Indicator Placed) (i : Indicator) (q : ℕ) → None ≡ get indicator_cmp m i → n ≡ m → (j : Indicator) (p : ℕ) → clause_at n.entries j p ≡ cond (is_spot i q j p) None (clause_at m.entries j p)
spot_none m n i q there same j p = ap (λ (k : BTreeMap Indicator Placed). clause_at k.entries j p) same ∙ go (at i j) (pos_at q p) refl
  where
    go : (b d : Bool) → at i j ≡ b → clause_at m.entries j p ≡ cond (b && d) None (clause_at m.entries j p)
    go true true h = ap (λ o. clause_in o p) (sym (there ∙ ap (get indicator_cmp m) (same_indicator i j h)))
    go true false h = refl
    go false d h = refl

pub value_same : (i : Indicator) (es : Entries) (ps : Placed) → lookup (at i) es ≡ Some ps → set_value (at i) es ps ≡ es
value_same i [] ps l = absurd cc
value_same i (e ∷ es) ps l = go (at i e.0) l (value_same i es ps)
  where
    go : (b : Bool) → cond b (Some e.1) (lookup (at i) es) ≡ Some ps → (lookup (at i) es ≡ Some ps → set_value (at i) es ps ≡ es) → cond b ((e.0, ps) ∷ es) (e ∷ set_value (at i) es ps) ≡ e ∷ es
    go true k r = let same : e.1 ≡ ps = cc in ap (λ (qs : Placed). (e.0, qs) ∷ es) (sym same)
    go false k r = ap (λ (ds : Entries). e ∷ ds) (r k)

-- a static procedure put to the others
at_turned : (i j : Indicator) → at i j ≡ at j i
at_turned i j = at_is i j ∙ (ap₂ (λ x y. x && y) (nat_list_eq_equiv.symm i.name j.name) (number_turned i.arity j.arity) ∙ sym (at_is j i))

static_snoc : (i j : Indicator) (ks : List Indicator) → is_static (ks ++ j ∷ []) i ≡ cond (at i j) true (is_static ks i)
static_snoc i j [] = ap (λ b. b || false) (sym (at_is i j)) ∙ by (at i j)
  where
    by : (b : Bool) → (b || false) ≡ cond b true false
    by true = refl
    by false = refl
static_snoc i j (k ∷ ks) = ap (λ b. (same_name i.name k.name && i.arity == k.arity) || b) (static_snoc i j ks) ∙ by (same_name i.name k.name && i.arity == k.arity) (at i j)
  where
    by : (a b : Bool) → (a || cond b true (is_static ks i)) ≡ cond b true (a || is_static ks i)
    by true true = refl
    by true false = refl
    by false true = refl
    by false false = refl

pub static_added : (known new done : List Indicator) (j : Indicator) → ((i : Indicator) → list_any (at i) new ≡ cond (at j i) true (list_any (at i) known)) → ((i : Indicator) → is_static known i ≡ is_static done i)
    → (i : Indicator) → is_static new i ≡ is_static (done ++ j ∷ []) i
static_added known new done j set h i =
    sym (static_is i new) ∙ (set i ∙ (ap₂ (λ x y. cond x true y) (at_turned j i) (static_is i known ∙ h i) ∙ sym (static_snoc i j done)))

-- a procedure without clauses made known
pub spot_declared : (m n : BTreeMap Indicator Placed) (i : Indicator) (ws : Placed) → ws ≡ [] → get indicator_cmp m i ≡ None → ((j : Indicator) → get indicator_cmp n j ≡ cond (at i j) (Some ws) (get indicator_cmp m j))
    → (j : Indicator) (p : ℕ) → clause_at n.entries j p ≡ clause_at m.entries j p
spot_declared m n i ws fresh none set j p = clauses_set m n i ws set j p ∙ go (at i j) refl
  where
    go : (b : Bool) → at i j ≡ b → cond b (lookup (pos_at p) ws) (clause_at m.entries j p) ≡ clause_at m.entries j p
    go true h = ap (lookup (pos_at p)) fresh ∙ sym (ap (λ o. clause_in o p) (ap (get indicator_cmp m) (sym (same_indicator i j h)) ∙ none))
    go false h = refl

pub ok_map : {X E : Type 0} (r : Result X E) (P Q : Type 0) → OnOk r P → (P → Q) → OnOk r Q
ok_map (Ok x) P Q p f = f p
ok_map (Err e) P Q p f = tt

pub err_map : {X E : Type 0} (r : Result X E) (P Q : Type 0) → OnErr r P → (P → Q) → OnErr r Q
err_map (Ok x) P Q p f = tt
err_map (Err e) P Q p f = f p

pub without_none : (i : Indicator) (q : ℕ) (es : Entries) → lookup (at i) es ≡ None → without_spot i q es ≡ es
without_none i q es e = without_absent i q es (none_passes_from_lookup (at i) es e)

-- ---- entries one by one

further : (e : Indicator × Placed) (es ds : Entries) → AllByRecursion (λ k. indicator_cmp e.0 k ≡ Less) (keys_of ds) → AllByRecursion (λ d. lookup (at d.0) es ≡ Some d.1) ds → AllByRecursion (λ d. lookup (at d.0) (e ∷ es) ≡ Some d.1) ds
further e es [] h f = tt
further e es (d ∷ ds) h f =
    let greater : indicator_cmp d.0 e.0 ≡ Greater = indicators_total.antisymm d.0 e.0 ∙ ap ordering_reverse h.0 in
    (ap (λ o. cond (is_eq o) (Some e.1) (lookup (at d.0) es)) greater ∙ f.0, further e es ds h.1 f.1)

-- each procedure is found under its own name
pub found_entries : (es : Entries) → Sorted es → AllByRecursion (λ e. lookup (at e.0) es ≡ Some e.1) es
unfolding IsStrictlySortedBy
found_entries [] s = tt
found_entries (e ∷ es) s = (ap (λ b. cond b (Some e.1) (lookup (at e.0) es)) (at_self e.0), further e es es s.0 (found_entries es s.1))

each_further : (e : ℕ × ClauseTerms) (ps ds : Placed) → AllByRecursion (λ d. IsSome (lookup (pos_at d.0) ps)) ds → AllByRecursion (λ d. IsSome (lookup (pos_at d.0) (e ∷ ps))) ds
each_further e ps [] h = tt
each_further e ps (d ∷ ds) h = (some_cond (pos_at d.0 e.0) e.1 (lookup (pos_at d.0) ps) h.0, each_further e ps ds h.1)

pub some_each : (ps : Placed) → AllByRecursion (λ d. IsSome (lookup (pos_at d.0) ps)) ps
some_each [] = tt
some_each (e ∷ ps) =
    let self : pos_at e.0 e.0 ≡ true = sym (unsigned_ties e.0 e.0) ∙ number_same e.0 in
    (subst (λ b. IsSome (cond b (Some e.1) (lookup (pos_at e.0) ps))) (sym self) refl, each_further e ps ps (some_each ps))

-- ---- as the definitions have them

turned_name : (a b : List ℕ) → same_name a b ≡ same_name b a
turned_name a b = nat_list_eq_equiv.symm a b

pub procedure_is : (i : Indicator) (e : Indicator × Placed) → is_procedure i.name i.arity (procedure_meant e) ≡ at i e.0
procedure_is i e = ap₂ (λ x y. x && y) (turned_name e.0.name i.name) (number_turned e.0.arity i.arity) ∙ sym (at_is i e.0)

pub clauses_found : (i : Indicator) (es : Entries) → option_map (λ p. p.clauses) (find (is_procedure i.name i.arity) (procedures_meant es)) ≡ option_map numbered_clauses (lookup (at i) es)
clauses_found i [] = refl
clauses_found i (e ∷ es) = go (is_procedure i.name i.arity (procedure_meant e)) (at i e.0) (procedure_is i e) (clauses_found i es)
  where
    go : (b c : Bool) → b ≡ c → option_map (λ p. p.clauses) (find (is_procedure i.name i.arity) (procedures_meant es)) ≡ option_map numbered_clauses (lookup (at i) es)
        → option_map (λ p. p.clauses) (cond b (Some (procedure_meant e)) (find (is_procedure i.name i.arity) (procedures_meant es))) ≡ option_map numbered_clauses (cond c (Some e.1) (lookup (at i) es))
    go true true k h = refl
    go false false k h = h
    go true false k h = absurd cc
    go false true k h = absurd cc

none_meant : (i : Indicator) (es : Entries) → NonePasses (at i) es → filter (λ p. not (is_procedure i.name i.arity p)) (procedures_meant es) ≡ procedures_meant es
none_meant i [] h = refl
none_meant i (e ∷ es) h =
    ap (λ b. cond (not b) (procedure_meant e ∷ filter (λ p. not (is_procedure i.name i.arity p)) (procedures_meant es)) (filter (λ p. not (is_procedure i.name i.arity p)) (procedures_meant es))) (procedure_is i e ∙ h.0)
    ∙ ap (λ (ps : List DynamicProcedure). procedure_meant e ∷ ps) (none_meant i es h.1)

pub meant_removed : (i : Indicator) (es : Entries) → Sorted es → procedures_meant (remove_entry (at i) es) ≡ filter (λ p. not (is_procedure i.name i.arity p)) (procedures_meant es)
unfolding IsStrictlySortedBy
meant_removed i [] s = refl
meant_removed i (e ∷ es) s = go (at i e.0) (is_procedure i.name i.arity (procedure_meant e)) refl (sym (procedure_is i e)) (meant_removed i es s.1)
  where
    go : (b c : Bool) → at i e.0 ≡ b → b ≡ c → procedures_meant (remove_entry (at i) es) ≡ filter (λ p. not (is_procedure i.name i.arity p)) (procedures_meant es)
        → procedures_meant (cond b es (e ∷ remove_entry (at i) es)) ≡ cond (not c) (procedure_meant e ∷ filter (λ p. not (is_procedure i.name i.arity p)) (procedures_meant es)) (filter (λ p. not (is_procedure i.name i.arity p)) (procedures_meant es))
    go true true h k r = sym (none_meant i es (tail_none i e es s h))
    go false false h k r = ap (λ (ps : List DynamicProcedure). procedure_meant e ∷ ps) r
    go true false h k r = absurd cc
    go false true h k r = absurd cc
