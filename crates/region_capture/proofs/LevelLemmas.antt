-- The bindings since a mark of what was seen, as they are found.
use Rattle.std.proofs.Common.{◌≡◌, ◌⊎◌, inl, inr, ℕ, zero, suc, ◌+◌, ◌<◌, ◌≤◌, ◌==◌, Bool, true, false, List, [], ◌∷◌, ◌++◌, get_or, set, length, length-set, get_or-set_same, take, nat_lt, refl, sym, ap, ◌∙◌, subst, arith}
use Rattle.std.specs.List.{Contains}
use Rattle.std.proofs.lemmas.Bool.{eqb-true}
use Rattle.std.proofs.lemmas.Bool.Decides.{nat_tests}
use Rattle.std.proofs.lemmas.List.{take_more}
use Rattle.std.proofs.lemmas.List.Elements.{Contains-append_left, Contains-push, Contains-push_cases, Contains-get_or}
use Rattle.au_term.specs.Term.{VarTerm}
use Rattle.au_term.specs.declared.segment.Binding.{Binding}
use Rattle.au_model.specs.Terms.Each.{Each}
use Rattle.au_model.specs.Terms.Substitutions.{value_of}
use Rattle.au_model.proofs.EachLemmas.{each-append, each-more}
use Rattle.cell_store.specs.MadeBindings.{AreOlderSince, AreOlderSinceMark, IsNextAtMark}
use Rattle.cell_store.specs.StoreView.{Moment, StoreView, IsValidStore}
use Rattle.branch_bindings.specs.Extensions.{IsBoundAmong, BindOnce}
use Rattle.region_capture.specs.CapturedMeanings.{captured_bindings}
use Rattle.region_capture.specs.CapturedRegions.{bound_at}
use Rattle.region_capture.specs.KeptLevels.{IsSeen, SeesBelow, IsKeptBinding, KeepsSeen, ReachesValues}
use Rattle.region_capture.specs.NeededBindings.{AddsBound, AddsBinding, IsAmong, KeepsAmong, Forgets, SeesMore, SeesThese, IsOfThese, WritesSeen, OpensLevel, KeepsSince}
use Rattle.region_capture.specs.declared.needed.Needed.{Needed}
use Rattle.region_capture.proofs.MarkLemmas.{has_at}
use Rattle.region_capture.proofs.ReachLemmas.{each_got, each_of, none_in}
use Rattle.region_capture.proofs.SeenLemmas.{seen_set, set_only, among_still, among_last, once_push, below_twice}

-- flags that are taken back
unset : (seen : List Bool) (i v : ℕ) → get_or (set seen i false) v false ≡ true → (get_or seen v false ≡ true) × (v ≡ i → ⊥)
unset [] i v h = absurd cc
unset (b ∷ seen) zero zero h = absurd cc
unset (b ∷ seen) zero (suc v) h = (h, λ e. omega (arith, e))
unset (b ∷ seen) (suc i) zero h = (h, λ e. omega (arith, e))
unset (b ∷ seen) (suc i) (suc v) h = let k = unset seen i v h in (k.0, λ e. k.1 (omega (arith, e)))

unset_others : (seen : List Bool) (i v : ℕ) → get_or seen v false ≡ true → (get_or (set seen i false) v false ≡ true) ⊎ (v ≡ i)
unset_others [] i v h = inl h
unset_others (b ∷ seen) zero zero h = inr refl
unset_others (b ∷ seen) zero (suc v) h = inl h
unset_others (b ∷ seen) (suc i) zero h = inl h
unset_others (b ∷ seen) (suc i) (suc v) h = elim (unset_others seen i v h) [ inl k ↦ inl k | inr e ↦ inr (ap suc e) ]

-- variables gone through, as far as here
module _ (vs : List ℕ) (i : ℕ) (lt : i < length vs) where
  pub one_more : (v : ℕ) → Contains (take (i + 1) vs) v → Contains (take i vs) v ⊎ (get_or vs i 0 ≡ v)
  one_more v h = Contains-push_cases (take i vs) (get_or vs i 0) v (subst (λ xs. Contains xs v) (take_more vs i 0 lt) h)

  pub here : Contains vs (get_or vs i 0)
  here = Contains-get_or vs i 0 lt

pub forgets_none : (seen : List Bool) → Forgets [] seen seen
forgets_none seen = record { none = λ v h. absurd (none_in v h); others = λ v h. inl h; only = λ v h. h; long = refl }

pub forgets_more : (vs : List ℕ) (i : ℕ) → i < length vs → (start old new : List Bool) → Forgets (take i vs) start old → new ≡ set old (get_or vs i 0) false → Forgets (take (i + 1) vs) start new
forgets_more vs i lt start old new f is = record {
  none = λ v c h.
      let k = unset old (get_or vs i 0) v (subst (λ xs. get_or xs v false ≡ true) is h) in
      elim (one_more vs i lt v c) [ inl j ↦ f.none v j k.0 | inr e ↦ k.1 (sym e) ];
  others = λ v h. elim (f.others v h) [
    | inl k ↦ elim (unset_others old (get_or vs i 0) v k) [
      | inl j ↦ inl (subst (λ xs. get_or xs v false ≡ true) (sym is) j)
      | inr e ↦ inr (subst (λ xs. Contains xs v) (sym (take_more vs i 0 lt)) (last_of (take i vs) (get_or vs i 0) v (sym e)))
    ]
    | inr c ↦ inr (subst (λ xs. Contains xs v) (sym (take_more vs i 0 lt)) (first_of (take i vs) (get_or vs i 0) v c))
  ];
  only = λ v h. f.only v (unset old (get_or vs i 0) v (subst (λ xs. get_or xs v false ≡ true) is h)).0;
  long = ap length is ∙ (length-set old (get_or vs i 0) false ∙ f.long);
}
  where
    first_of : (xs : List ℕ) (x v : ℕ) → Contains xs v → Contains (xs ++ x ∷ []) v
    first_of xs x v c = Contains-append_left xs (x ∷ []) v c

    last_of : (xs : List ℕ) (x v : ℕ) → x ≡ v → Contains (xs ++ x ∷ []) v
    last_of xs x v e = subst (Contains (xs ++ x ∷ [])) e (Contains-push xs x)

-- the binding of one more variable
module _ (P Q : ℕ → Type 0) (st : StoreView) (v : ℕ) (old new : Needed) (k : KeepsAmong P st old) (kept : (w : ℕ) → IsSeen old.seen w → IsSeen new.seen w) (own : Q v) (is_seen : IsSeen new.seen v) (wider : (w : ℕ) → P w → Q w)
    (only : (w : ℕ) → Q w → IsSeen new.seen w → (P w × IsSeen old.seen w) ⊎ (w ≡ v)) where
  still : Each (IsAmong Q st new) old.bindings
  still = each-more (IsAmong P st old) (IsAmong Q st new) (λ b h. record { own = wider b.var h.own; is_seen = kept b.var h.is_seen; written = h.written }) old.bindings k.each

  adds_bound : ((b : Binding) → IsAmong P st old b → b.var ≡ v → ⊥) → AddsBound st v old.bindings new.bindings → KeepsAmong Q st new
  adds_bound other a =
      let b = a.binding in
      let w = a.written in
      let i : v ≡ b.var = sym w.is in
      let its : IsAmong Q st new b
      = record {
        own = subst Q i own;
        is_seen = subst (IsSeen new.seen) i is_seen;
        written = record { is = refl; stands = ap (value_of st.now.bound) w.is ∙ w.stands; older = λ u e. let lt = w.older u e in omega (arith, lt, i); below = w.below };
      } in
      record {
        each = subst (Each (IsAmong Q st new)) (sym a.added) (each-append (IsAmong Q st new) old.bindings (b ∷ []) still (its, tt));
        once = subst (λ bs. BindOnce (captured_bindings bs)) (sym a.added) (once_push old.bindings b k.once (each-more (IsAmong P st old) (λ x. x.var ≡ b.var → ⊥) (λ x h e. other x h (e ∙ w.is)) old.bindings k.each));
        all = λ u q h. subst (λ bs. (value_of st.now.bound u ≡ VarTerm u) ⊎ IsBoundAmong (captured_bindings bs) u) (sym a.added) (elim (only u q h) [
          | inl o ↦ among_still st old.bindings b u (k.all u o.0 o.1)
          | inr e ↦ inr (among_last old.bindings b u (w.is ∙ sym e))
        ]);
      }

  pub adds_one : ((b : Binding) → IsAmong P st old b → b.var ≡ v → ⊥) → AddsBinding st v old.bindings new.bindings → KeepsAmong Q st new
  adds_one other (inl h) = record {
    each = subst (Each (IsAmong Q st new)) (sym h.1) still;
    once = subst (λ bs. BindOnce (captured_bindings bs)) (sym h.1) k.once;
    all = λ u q s. subst (λ bs. (value_of st.now.bound u ≡ VarTerm u) ⊎ IsBoundAmong (captured_bindings bs) u) (sym h.1) (elim (only u q s) [
      | inl o ↦ k.all u o.0 o.1
      | inr e ↦ inl (subst (λ x. value_of st.now.bound x ≡ VarTerm x) (sym e) h.0)
    ]);
  }
  adds_one other (inr a) = adds_bound other a

-- older variables that are seen, as far as here
pub record SeesTo (st : StoreView) (vs : List ℕ) (i : ℕ) (old : List Bool) (new : Needed) : Type 0 where
  pub kept : (v : ℕ) → IsSeen old v → IsSeen new.seen v
  pub only : (v : ℕ) → IsSeen new.seen v → IsSeen old v ⊎ Contains vs v
  pub all : (v : ℕ) → Contains (take i vs) v → IsSeen new.seen v
  pub long : length new.seen ≡ length old
  pub keeps : KeepsAmong (Contains vs) st new

pub sees_none : (st : StoreView) (vs : List ℕ) (n : Needed) → n.bindings ≡ [] → ((v : ℕ) → Contains vs v → IsSeen n.seen v → ⊥) → SeesTo st vs 0 n.seen n
sees_none st vs n none unseen = record {
  kept = λ v h. h;
  only = λ v h. inl h;
  all = λ v c. absurd (none_in v c);
  long = refl;
  keeps = record {
    each = subst (Each (IsAmong (Contains vs) st n)) (sym none) tt;
    once = subst (λ bs. BindOnce (captured_bindings bs)) (sym none) tt;
    all = λ v c h. absurd (unseen v c h);
  };
}

pub within : (st : StoreView) (vs : List ℕ) (i : ℕ) → i < length vs → (start : List Bool) (old : Needed) → SeesTo st vs i start old → Each (λ v. v < st.now.next) vs → st.now.next ≤ length start → get_or vs i 0 < length old.seen
within st vs i lt start old s there long = let own = each_got (λ v. v < st.now.next) vs i 0 there lt in let l = s.long in omega (arith, own, l, long)

module _ (st : StoreView) (vs : List ℕ) (i : ℕ) (lt : i < length vs) (start : List Bool) (old new : Needed) (s : SeesTo st vs i start old) where
  abbrev v : ℕ
  v = get_or vs i 0

  pub sees_again : IsSeen old.seen v → SeesTo st vs (i + 1) start old
  sees_again h = record {
    kept = s.kept;
    only = s.only;
    all = λ w c. elim (one_more vs i lt w c) [ inl j ↦ s.all w j | inr e ↦ subst (IsSeen old.seen) e h ];
    long = s.long;
    keeps = s.keeps;
  }

  module _ (not_yet : get_or old.seen v false ≡ false) (set_is : new.seen ≡ set old.seen v true) (inside : v < length old.seen) (adds : AddsBinding st v old.bindings new.bindings) where
    more : (w : ℕ) → IsSeen old.seen w → IsSeen new.seen w
    more w h = subst (λ xs. get_or xs w false ≡ true) (sym set_is) (seen_set old.seen v w h)

    alone : (w : ℕ) → IsSeen new.seen w → IsSeen old.seen w ⊎ (w ≡ v)
    alone w h = set_only old.seen v w (subst (λ xs. get_or xs w false ≡ true) set_is h)

    now_seen : IsSeen new.seen v
    now_seen = subst (λ xs. get_or xs v false ≡ true) (sym set_is) (get_or-set_same old.seen v true false inside)

    pub sees_next : SeesTo st vs (i + 1) start new
    sees_next = record {
      kept = λ w h. more w (s.kept w h);
      only = λ w h. elim (alone w h) [ inl k ↦ s.only w k | inr e ↦ inr (subst (Contains vs) (sym e) (here vs i lt)) ];
      all = λ w c. elim (one_more vs i lt w c) [ inl j ↦ more w (s.all w j) | inr e ↦ subst (IsSeen new.seen) e now_seen ];
      long = ap length set_is ∙ (length-set old.seen v true ∙ s.long);
      keeps = adds_one (Contains vs) (Contains vs) st v old new s.keeps more (here vs i lt) now_seen (λ w p. p) (λ w p h. elim (alone w h) [ inl k ↦ inl (p, k) | inr e ↦ inr e ])
          (λ b h e. let yes : get_or old.seen v false ≡ true = subst (IsSeen old.seen) e h.is_seen in let no : false ≡ true = sym not_yet ∙ yes in absurd cc) adds;
    }

-- new variables that were seen, as far as here
abbrev pub WritesTo : StoreView → ℕ → ℕ → Needed → Needed → Type 0
WritesTo st first to old new = WritesSeen st first to old new

pub writes_none : (st : StoreView) (first : ℕ) (n : Needed) → WritesTo st first first n n
writes_none st first n = record {
  same = refl;
  keeps = λ vs older k. record {
    each = each-more (IsAmong (Contains vs) st n) (IsAmong (IsOfThese vs first first) st n) (λ b h. record { own = inl h.own; is_seen = h.is_seen; written = h.written }) n.bindings k.each;
    once = k.once;
    all = λ v q h. elim q [ inl c ↦ k.all v c h | inr r ↦ absurd (let a = r.0 in let b = r.1 in omega (arith, a, b)) ];
  };
}

module _ (st : StoreView) (first v : ℕ) (le : first ≤ v) (start old new : Needed) (w : WritesTo st first v start old) (same : new.seen ≡ old.seen) where
  items : new.seen ≡ old.seen
  items = same

  narrower : (vs : List ℕ) (u : ℕ) → IsOfThese vs first (v + 1) u → IsOfThese vs first v u ⊎ (u ≡ v)
  narrower vs u (inl c) = inl (inl c)
  narrower vs u (inr r) = by_test (u == v) refl
    where
      by_test : (b : Bool) → (u == v) ≡ b → IsOfThese vs first v u ⊎ (u ≡ v)
      by_test true e = inr (eqb-true u v e)
      by_test false e = let no : u ≡ v → ⊥ = grind (arith, nat_tests) in inl (inr (r.0, (let lt = r.1 in omega (arith, lt, no))))

  wider_these : (vs : List ℕ) (u : ℕ) → IsOfThese vs first v u → IsOfThese vs first (v + 1) u
  wider_these vs u (inl c) = inl c
  wider_these vs u (inr r) = inr (r.0, (let lt = r.1 in omega (arith, lt)))

  pub writes_next : IsSeen old.seen v → AddsBinding st v old.bindings new.bindings → WritesTo st first (v + 1) start new
  writes_next h adds = record {
    same = same ∙ w.same;
    keeps = λ vs older k.
        adds_one (IsOfThese vs first v) (IsOfThese vs first (v + 1)) st v old new (w.keeps vs older k) (λ u s. subst (λ xs. get_or xs u false ≡ true) (sym items) s) (inr (le, omega arith)) (subst (λ xs. get_or xs v false ≡ true) (sym items) h) (wider_these vs)
        (λ u q s. elim (narrower vs u q) [ inl p ↦ inl (p, subst (λ xs. get_or xs u false ≡ true) items s) | inr e ↦ inr e ])
        (λ b a e. elim a.own [
          | inl c ↦ let lt = each_of (λ x. x < first) vs b.var older c in omega (arith, lt, e, le)
          | inr r ↦ let lt = r.1 in omega (arith, lt, e)
        ]) adds;
  }

  pub writes_not : (IsSeen old.seen v → ⊥) → new.bindings ≡ old.bindings → WritesTo st first (v + 1) start new
  writes_not unseen bindings = record {
    same = same ∙ w.same;
    keeps = λ vs older k.
        let was = w.keeps vs older k in
        record {
          each = subst (Each (IsAmong (IsOfThese vs first (v + 1)) st new)) (sym bindings) (each-more (IsAmong (IsOfThese vs first v) st old) (IsAmong (IsOfThese vs first (v + 1)) st new) (λ b a. record { own = wider_these vs b.var a.own; is_seen = subst (λ xs. get_or xs b.var false ≡ true) (sym items) a.is_seen; written = a.written }) old.bindings was.each);
          once = subst (λ bs. BindOnce (captured_bindings bs)) (sym bindings) was.once;
          all = λ u q s.
              let before : get_or old.seen u false ≡ true = subst (λ xs. get_or xs u false ≡ true) items s in
              subst (λ bs. (value_of st.now.bound u ≡ VarTerm u) ⊎ IsBoundAmong (captured_bindings bs) u) (sym bindings) (elim (narrower vs u q) [ inl p ↦ was.all u p before | inr e ↦ absurd (unseen (subst (IsSeen old.seen) e before)) ]);
        };
  }

pub older_below : (st : StoreView) (mark : ℕ) → mark < length st.marks → (older : List ℕ) → AreOlderSinceMark st mark older → Each (λ v. v < st.now.next) older
older_below st mark lt older o =
    let at = has_at st.marks mark lt in
    let since = o at.before at.after at.element at.are at.long in
    each-more (λ v. v < at.element.next) (λ v. v < st.now.next) (λ v less. let l = since.later in omega (arith, less, l)) older since.older

-- a level is opened
module _ (st : StoreView) (older : List ℕ) (start unseen : List Bool) (mid end : Needed) (f : Forgets older start unseen) (s : SeesThese st older unseen mid) (first : ℕ) (w : WritesSeen st first st.now.next mid end)
    (below : Each (λ v. v < st.now.next) older) where
  same_flags : end.seen ≡ mid.seen
  same_flags = w.same

  in_mid : (v : ℕ) → IsSeen end.seen v → IsSeen mid.seen v
  in_mid v h = subst (λ xs. get_or xs v false ≡ true) same_flags h

  in_end : (v : ℕ) → IsSeen mid.seen v → IsSeen end.seen v
  in_end v h = subst (λ xs. get_or xs v false ≡ true) (sym same_flags) h

  pub opens_below : SeesBelow st.now.next start end.seen
  opens_below = record {
    kept = λ v h. in_end v (elim (f.others v h) [ inl k ↦ s.kept v k | inr c ↦ s.all v c ]);
    only = λ v h. elim (s.only v (in_mid v h)) [ inl k ↦ inl (f.only v k) | inr c ↦ inr (each_of (λ x. x < st.now.next) older v below c) ];
  }

  pub opens_long : length end.seen ≡ length start
  opens_long = ap length same_flags ∙ (s.long ∙ f.long)

  pub opens_keeps : IsValidStore st → (m : Moment) → first ≡ m.next → AreOlderSince m st older → KeepsSeen (bound_at m) (bound_at st.now) end.seen end.bindings
  opens_keeps valid m first_is o =
      let k = w.keeps older (subst (λ n. Each (λ v. v < n) older) (sym first_is) o.older) s.keeps in
      record {
        later = o.later;
        unbound = o.unbound;
        below = o.below;
        further = o.further;
        new = valid.new;
        each = each-more (IsAmong (IsOfThese older first st.now.next) st end) (IsKeptBinding (bound_at m) (bound_at st.now) end.seen) kept_binding end.bindings k.each;
        once = k.once;
        all = λ v free h. by_place v free h k;
        older = λ v lt free. elim (o.all v lt free) [ inl g ↦ inl g | inr c ↦ inr (in_end v (s.all v c)) ];
      }
    where
      kept_binding : (b : Binding) → IsAmong (IsOfThese older first st.now.next) st end b → IsKeptBinding (bound_at m) (bound_at st.now) end.seen b
      kept_binding b a = record {
        is_seen = a.is_seen;
        there = elim a.own [ inl c ↦ each_of (λ x. x < st.now.next) older b.var below c | inr r ↦ r.1 ];
        free = elim a.own [ inl c ↦ each_of (λ x. value_of m.bound x ≡ VarTerm x) older b.var o.free c | inr r ↦ o.unbound b.var (let le = r.0 in omega (arith, le, first_is)) ];
        stands = a.written.stands;
        older = a.written.older;
        below = a.written.below;
      }

      by_place : (v : ℕ) → value_of m.bound v ≡ VarTerm v → IsSeen end.seen v → KeepsAmong (IsOfThese older first st.now.next) st end → (value_of st.now.bound v ≡ VarTerm v) ⊎ IsBoundAmong (captured_bindings end.bindings) v
      by_place v free h k = by_test (nat_lt v m.next) refl (nat_lt v st.now.next) refl
        where
          by_test : (a : Bool) → nat_lt v m.next ≡ a → (b : Bool) → nat_lt v st.now.next ≡ b → (value_of st.now.bound v ≡ VarTerm v) ⊎ IsBoundAmong (captured_bindings end.bindings) v
          by_test true e b d = let lt : v < m.next = grind (arith, nat_tests) in elim (o.all v lt free) [ inl g ↦ inl g | inr c ↦ k.all v (inl c) h ]
          by_test false e true d = let le : m.next ≤ v = grind (arith, nat_tests) in let lt : v < st.now.next = grind (arith, nat_tests) in k.all v (inr (omega (arith, le, first_is), lt)) h
          by_test false e false d = let le : st.now.next ≤ v = grind (arith, nat_tests) in inl (valid.new v le)

-- and what is reached from there
module _ (st : StoreView) (mark first : ℕ) (start : List Bool) (first_of new : Needed) (o : OpensLevel st mark start first_of) (s : SeesMore st first first_of new) (first_is : IsNextAtMark st mark first) (values : ReachesValues st.now.next new.seen new.bindings) where
  pub level_kept : KeepsSince st mark start new.seen new.bindings
  level_kept = record {
    below = below_twice st.now.next start first_of.seen new.seen o.below s.below;
    long = s.long ∙ o.long;
    level = λ m marked. record {
      keeps = s.keeps (bound_at m) (first_is marked.before marked.after m marked.are marked.over) (o.keeps m marked);
      values = values;
    };
  }
