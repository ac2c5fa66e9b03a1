-- What is bound of what is kept.
use Rattle.std.proofs.Common.{◌≡◌, ◌⊎◌, inl, inr, ℕ, zero, suc, ◌<◌, ◌≤◌, ◌==◌, ◌||◌, cond, Bool, true, false, List, [], ◌∷◌, get_or, nat_lt, refl, sym, ap, ◌∙◌, subst, arith}
use Rattle.std.specs.Prelude.{nat_le}
use Rattle.std.proofs.lemmas.Bool.{eqb-true}
use Rattle.std.proofs.lemmas.Bool.Decides.{nat_tests}
use Rattle.au_term.specs.Term.{Term, VarTerm, IntTerm, AtomTerm, Compound, Terms, end, more}
use Rattle.au_term.specs.declared.segment.Binding.{Binding}
use Rattle.au_model.specs.Terms.Each.{Each}
use Rattle.au_model.specs.Terms.Substitutions.{Substitution, value_of, resolve, apply, apply_all, occurs, occurs_in}
use Rattle.au_term.proofs.LogicLemmas.{number_same}
use Rattle.au_model.proofs.ApplyLemmas.{or_left, or_right, either}
use Rattle.cell_store.proofs.OccurrenceLemmas.{agreed, occurs_below}
use Rattle.branch_bindings.specs.Extensions.{IsBoundAmong, IsWrittenBinding, ExtendsBy}
use Rattle.branch_bindings.specs.ExtensionLaws.{IsFinal}
use Rattle.region_split.specs.ResultLists.{IsNumberedFrom}
use Rattle.region_capture.specs.CapturedMeanings.{captured_bindings}
use Rattle.region_capture.specs.CapturedChoices.{BoundThen}
use Rattle.region_capture.specs.KeptLevels.{IsSeen, IsVariableReached, AreReachedIn, IsBindingReached, IsKeptBinding, KeepsLevel}
use Rattle.region_capture.proofs.ReachLemmas.{each_of}

-- what a substitution gives some of the variables below a number
abbrev pub kept_to : (ℕ → Bool) → Substitution → ℕ → Substitution
kept_to keep t zero = []
kept_to keep t (suc n) = (n, cond (keep n) (value_of t n) (VarTerm n)) ∷ kept_to keep t n

kept_below : (keep : ℕ → Bool) (t : Substitution) (n v : ℕ) → v < n → value_of (kept_to keep t n) v ≡ cond (keep v) (value_of t v) (VarTerm v)
kept_below keep t zero v lt = absurd (omega (arith, lt))
kept_below keep t (suc n) v lt = by_test (kept_below keep t n v) (n == v) refl
  where
    by_test : (v < n → value_of (kept_to keep t n) v ≡ cond (keep v) (value_of t v) (VarTerm v)) → (b : Bool) → (n == v) ≡ b → cond b (cond (keep n) (value_of t n) (VarTerm n)) (value_of (kept_to keep t n) v) ≡ cond (keep v) (value_of t v) (VarTerm v)
    by_test rest true e = ap (λ m. cond (keep m) (value_of t m) (VarTerm m)) (eqb-true n v e)
    by_test rest false e = rest (grind (arith, nat_tests))

kept_past : (keep : ℕ → Bool) (t : Substitution) (n v : ℕ) → n ≤ v → value_of (kept_to keep t n) v ≡ VarTerm v
kept_past keep t zero v le = refl
kept_past keep t (suc n) v le = by_test (kept_past keep t n v (omega (arith, le))) (n == v) refl
  where
    by_test : value_of (kept_to keep t n) v ≡ VarTerm v → (b : Bool) → (n == v) ≡ b → cond b (cond (keep n) (value_of t n) (VarTerm n)) (value_of (kept_to keep t n) v) ≡ VarTerm v
    by_test rest true e = absurd (let same : n ≡ v = eqb-true n v e in omega (arith, le, same))
    by_test rest false e = rest

-- from the next number on nothing is bound
module _ (keep : ℕ → Bool) (t : Substitution) (next : ℕ) (new : (v : ℕ) → next ≤ v → value_of t v ≡ VarTerm v) where
  abbrev kept : Substitution
  kept = kept_to keep t next

  pub stays : (v : ℕ) → keep v ≡ true → value_of kept v ≡ value_of t v
  stays v h = by_test (nat_lt v next) refl
    where
      by_test : (b : Bool) → nat_lt v next ≡ b → value_of kept v ≡ value_of t v
      by_test true e = let lt : v < next = grind (arith, nat_tests) in kept_below keep t next v lt ∙ ap (λ b. cond b (value_of t v) (VarTerm v)) h
      by_test false e = let le : next ≤ v = grind (arith, nat_tests) in kept_past keep t next v le ∙ sym (new v le)

  pub gone : (v : ℕ) → keep v ≡ false → value_of kept v ≡ VarTerm v
  gone v h = by_test (nat_lt v next) refl
    where
      by_test : (b : Bool) → nat_lt v next ≡ b → value_of kept v ≡ VarTerm v
      by_test true e = let lt : v < next = grind (arith, nat_tests) in kept_below keep t next v lt ∙ ap (λ b. cond b (value_of t v) (VarTerm v)) h
      by_test false e = let le : next ≤ v = grind (arith, nat_tests) in kept_past keep t next v le

  pub free_stays : (v : ℕ) → value_of t v ≡ VarTerm v → value_of kept v ≡ VarTerm v
  free_stays v f = by_test (keep v) refl
    where
      by_test : (b : Bool) → keep v ≡ b → value_of kept v ≡ VarTerm v
      by_test true e = stays v e ∙ f
      by_test false e = gone v e

  pub term_stays : (u : Term) → ((w : ℕ) → occurs w u ≡ true → (keep w ≡ true) ⊎ (value_of t w ≡ VarTerm w)) → resolve kept u ≡ resolve t u
  term_stays u h = agreed (value_of kept) (value_of t) u (λ w o. elim (h w o) [ inl k ↦ stays w k | inr f ↦ free_stays w f ∙ sym f ])

-- a term that a substitution leaves as it is has no variable that it binds
mutual
  pub left_free : (f : ℕ → Term) (t : Term) → apply f t ≡ t → (w : ℕ) → occurs w t ≡ true → f w ≡ VarTerm w
  left_free f (VarTerm n) e w o = let same : w ≡ n = eqb-true w n o in subst (λ m. f m ≡ VarTerm m) (sym same) e
  left_free f (IntTerm z) e w o = absurd cc
  left_free f (AtomTerm a) e w o = absurd cc
  left_free f (Compound a ts) e w o = let rest : apply_all f ts ≡ ts = cc in all_left_free f ts rest w o

  all_left_free : (f : ℕ → Term) (ts : Terms) → apply_all f ts ≡ ts → (w : ℕ) → occurs_in w ts ≡ true → f w ≡ VarTerm w
  all_left_free f end e w o = absurd cc
  all_left_free f (more t ts) e w o =
      let first : apply f t ≡ t = cc in
      let rest : apply_all f ts ≡ ts = cc in
      elim (either (occurs w t) (occurs_in w ts) o) [ inl k ↦ left_free f t first w k | inr k ↦ all_left_free f ts rest w k ]

-- variables that are numbered from a number on
abbrev one_bound : ℕ → Substitution
one_bound v = (v, AtomTerm []) ∷ []

pub numbered_from : (next : ℕ) (t : Term) → IsNumberedFrom next t → (v : ℕ) → occurs v t ≡ true → next ≤ v
numbered_from next t h v o = by_test (nat_lt v next) refl
  where
    own : value_of (one_bound v) v ≡ AtomTerm []
    own = ap (λ b. cond b (AtomTerm []) (VarTerm v)) (number_same v)

    others : v < next → (n : ℕ) → next ≤ n → value_of (one_bound v) n ≡ VarTerm n
    others lt n le = let unlike : (v == n) ≡ false = grind (arith, nat_tests) in ap (λ b. cond b (AtomTerm []) (VarTerm n)) unlike

    by_test : (b : Bool) → nat_lt v next ≡ b → next ≤ v
    by_test true e =
        let lt : v < next = grind (arith, nat_tests) in
        let free : value_of (one_bound v) v ≡ VarTerm v = left_free (value_of (one_bound v)) t (h (one_bound v) (others lt)) v o in
        let wrong : ◌≡◌ {A = Term} (AtomTerm []) (VarTerm v) = sym own ∙ free in
        absurd cc
    by_test false e = grind (arith, nat_tests)

-- what holds of each binding, as it is written
pub each_written : (P : ℕ × Term → Type 0) (Q : Binding → Type 0) (R : ℕ × Term → Type 0) → ((b : Binding) → P (b.var, b.value) → Q b → R (b.var, b.value)) → (bs : List Binding) → Each P (captured_bindings bs) → Each Q bs
    → Each R (captured_bindings bs)
each_written P Q R f [] p q = tt
each_written P Q R f (b ∷ bs) p q = (f b p.0 q.0, each_written P Q R f bs p.1 q.1)

each_binding : (Q : Binding → Type 0) (R : ℕ × Term → Type 0) → ((b : Binding) → Q b → R (b.var, b.value)) → (bs : List Binding) → Each Q bs → Each R (captured_bindings bs)
each_binding Q R f [] q = tt
each_binding Q R f (b ∷ bs) q = (f b q.0, each_binding Q R f bs q.1)

-- variables of the start, and those that were seen
abbrev pub keep_of : ℕ → List Bool → ℕ → Bool
keep_of start seen v = nat_lt v start || get_or seen v false

module _ (start : ℕ) (seen : List Bool) where
  pub keeps_older : (v : ℕ) → v < start → keep_of start seen v ≡ true
  keeps_older v lt = let h : nat_lt v start ≡ true = grind (arith, nat_tests) in or_left (nat_lt v start) (get_or seen v false) h

  pub keeps_seen : (v : ℕ) → IsSeen seen v → keep_of start seen v ≡ true
  keeps_seen v h = or_right (nat_lt v start) (get_or seen v false) h

  pub kept_only : (v : ℕ) → keep_of start seen v ≡ true → (v < start) ⊎ IsSeen seen v
  kept_only v h = elim (either (nat_lt v start) (get_or seen v false) h) [ inl t ↦ inl (grind (arith, nat_tests)) | inr s ↦ inr s ]

-- from one moment to another
module _ (start : ℕ) (seen : List Bool) (under now : BoundThen) (bs : List Binding) (k : KeepsLevel under now seen bs) (le : start ≤ under.next) (pre : Substitution) where
  abbrev keep_level : ℕ → Bool
  keep_level = keep_of start seen

  abbrev before : Substitution
  before = kept_to keep_level under.bound under.next

  abbrev after : Substitution
  after = kept_to keep_level now.bound now.next

  module _ (pre_is : (v : ℕ) → value_of pre v ≡ value_of before v) (settled : (v w : ℕ) → occurs w (value_of under.bound v) ≡ true → (keep_level w ≡ true) ⊎ (value_of under.bound w ≡ VarTerm w)) where
    value_stays : (t : Term) → AreReachedIn now.next seen t → resolve after t ≡ resolve now.bound t
    value_stays t r = term_stays keep_level now.bound now.next k.keeps.new t (λ w o. elim (r w o) [ inl n ↦ inr (k.keeps.new w n) | inr h ↦ inl (keeps_seen start seen w h) ])

    written : (b : Binding) → IsKeptBinding under now seen b → AreReachedIn now.next seen b.value → IsWrittenBinding pre after now.next (b.var, b.value)
    written b h r = record {
      there = h.there;
      free = pre_is b.var ∙ free_stays keep_level under.bound under.next k.keeps.unbound b.var h.free;
      stands = stays keep_level now.bound now.next k.keeps.new b.var (keeps_seen start seen b.var h.is_seen) ∙ (h.stands ∙ sym (value_stays b.value r));
      older = h.older;
      below = h.below;
    }

    each_of_them : (xs : List Binding) → Each (IsKeptBinding under now seen) xs → Each (λ (b : Binding). AreReachedIn now.next seen b.value) xs → Each (IsWrittenBinding pre after now.next) (captured_bindings xs)
    each_of_them [] p q = tt
    each_of_them (b ∷ xs) p q = (written b p.0 q.0, each_of_them xs p.1 q.1)

    abbrev FreeOrBound : ℕ → Type 0
    FreeOrBound v = (value_of after v ≡ VarTerm v) ⊎ IsBoundAmong (captured_bindings bs) v

    from_now : (v : ℕ) → (value_of now.bound v ≡ VarTerm v) ⊎ IsBoundAmong (captured_bindings bs) v → FreeOrBound v
    from_now v (inl f) = inl (free_stays keep_level now.bound now.next k.keeps.new v f)
    from_now v (inr b) = inr b

    was_free : (v : ℕ) → keep_level v ≡ true → value_of pre v ≡ VarTerm v → value_of under.bound v ≡ VarTerm v
    was_free v h f = sym (stays keep_level under.bound under.next k.keeps.unbound v h) ∙ (sym (pre_is v) ∙ f)

    others : (v : ℕ) → value_of pre v ≡ VarTerm v → FreeOrBound v
    others v f = by_test (keep_level v) refl
      where
        by_test : (b : Bool) → keep_level v ≡ b → FreeOrBound v
        by_test false e = inl (gone keep_level now.bound now.next k.keeps.new v e)
        by_test true e =
            let free = was_free v e f in
            from_now v (elim (kept_only start seen v e) [
              | inl lt ↦ elim (k.keeps.older v (omega (arith, lt, le)) free) [ inl g ↦ inl g | inr s ↦ k.keeps.all v free s ]
              | inr s ↦ k.keeps.all v free s
            ])

    -- of what was bound at the first moment
    older_stays : (v w : ℕ) → keep_level v ≡ true → occurs w (value_of under.bound v) ≡ true → (keep_level w ≡ true) ⊎ (value_of now.bound w ≡ VarTerm w)
    older_stays v w h o = elim (settled v w o) [ inl s ↦ inl s | inr free ↦ by_test free (nat_lt v under.next) refl ]
      where
        by_test : value_of under.bound w ≡ VarTerm w → (b : Bool) → nat_lt v under.next ≡ b → (keep_level w ≡ true) ⊎ (value_of now.bound w ≡ VarTerm w)
        by_test free true e =
            let lt : v < under.next = grind (arith, nat_tests) in
            let less : w < under.next = let a = occurs_below w (value_of under.bound v) o in let b = k.keeps.below v lt in omega (arith, a, b) in
            elim (k.keeps.older w less free) [ inl g ↦ inr g | inr s ↦ inl (keeps_seen start seen w s) ]
        by_test free false e =
            let past : under.next ≤ v = grind (arith, nat_tests) in
            let same : w ≡ v = eqb-true w v (subst (λ t. occurs w t ≡ true) (k.keeps.unbound v past) o) in
            inl (subst (λ x. keep_level x ≡ true) (sym same) h)

    further : (v : ℕ) → value_of after v ≡ resolve after (value_of pre v)
    further v = by_test (keep_level v) refl
      where
        by_test : (b : Bool) → keep_level v ≡ b → value_of after v ≡ resolve after (value_of pre v)
        by_test true e =
            stays keep_level now.bound now.next k.keeps.new v e
            ∙ (k.keeps.further v
            ∙ (sym (term_stays keep_level now.bound now.next k.keeps.new (value_of under.bound v) (λ w o. older_stays v w e o))
            ∙ ap (resolve after) (sym (pre_is v ∙ stays keep_level under.bound under.next k.keeps.unbound v e))))
        by_test false e = ap (resolve after) (sym (pre_is v ∙ gone keep_level under.bound under.next k.keeps.unbound v e))

    pub level_extends : ExtendsBy pre after now.next (captured_bindings bs)
    level_extends = record { each = each_of_them bs k.keeps.each k.values; once = k.keeps.once; others = others; further = further }

-- an alternative keeps its own variables too
abbrev pub keep_with : (ℕ → Bool) → ℕ → ℕ → Bool
keep_with keep next v = nat_le next v || keep v

module _ (keep : ℕ → Bool) (next : ℕ) where
  pub own_kept : (v : ℕ) → next ≤ v → keep_with keep next v ≡ true
  own_kept v le = let h : nat_le next v ≡ true = grind (arith, nat_tests) in or_left (nat_le next v) (keep v) h

  pub more_kept : (v : ℕ) → keep v ≡ true → keep_with keep next v ≡ true
  more_kept v h = or_right (nat_le next v) (keep v) h

  pub with_only : (v : ℕ) → keep_with keep next v ≡ true → (next ≤ v) ⊎ (keep v ≡ true)
  with_only v h = elim (either (nat_le next v) (keep v) h) [ inl t ↦ inl (grind (arith, nat_tests)) | inr s ↦ inr s ]

module _ (start : ℕ) (seen : List Bool) (came : BoundThen) (new : (v : ℕ) → came.next ≤ v → value_of came.bound v ≡ VarTerm v) (final : IsFinal came.bound) (s : Substitution) (next : ℕ) (bs : List Binding)
    (extends : ExtendsBy came.bound s next (captured_bindings bs)) (le : came.next ≤ next) (reached : Each (IsBindingReached came.next seen) bs) where
  abbrev keep_came : ℕ → Bool
  keep_came = keep_of start seen

  abbrev all : ℕ → Bool
  all = keep_with keep_came came.next

  abbrev first : Substitution
  first = kept_to keep_came came.bound came.next

  abbrev own : Substitution
  own = kept_to all s next

  pub variable_kept : (v : ℕ) → IsVariableReached came.next seen v → all v ≡ true
  variable_kept v (inl n) = own_kept keep_came came.next v n
  variable_kept v (inr h) = more_kept keep_came came.next v (keeps_seen start seen v h)

  bound_reached : (v : ℕ) → IsBoundAmong (captured_bindings bs) v → all v ≡ true
  bound_reached v b =
      let each : Each (λ (p : ℕ × Term). all p.0 ≡ true) (captured_bindings bs) = each_binding (IsBindingReached came.next seen) (λ p. all p.0 ≡ true) (λ x r. variable_kept x.var r.variable) bs reached in
      each_of (λ (p : ℕ × Term). all p.0 ≡ true) (captured_bindings bs) (v, b.value) each b.is

  pub own_new : (v : ℕ) → next ≤ v → value_of s v ≡ VarTerm v
  own_new v n = elim (extends.others v (new v (omega (arith, n, le)))) [
    | inl f ↦ f
    | inr b ↦ let lt = (each_of (IsWrittenBinding came.bound s next) (captured_bindings bs) (v, b.value) extends.each b.is).there in absurd (omega (arith, lt, n))
  ]

  pub own_stays : (t : Term) → AreReachedIn came.next seen t → resolve own t ≡ resolve s t
  own_stays t r = term_stays all s next own_new t (λ w o. inl (variable_kept w (r w o)))

  own_written : (b : Binding) → IsWrittenBinding came.bound s next (b.var, b.value) → IsBindingReached came.next seen b → IsWrittenBinding first own next (b.var, b.value)
  own_written b w r = record {
    there = w.there;
    free = free_stays keep_came came.bound came.next new b.var w.free;
    stands = stays all s next own_new b.var (variable_kept b.var r.variable) ∙ (w.stands ∙ sym (own_stays b.value r.value));
    older = w.older;
    below = w.below;
  }

  was_free2 : (v : ℕ) → all v ≡ true → value_of first v ≡ VarTerm v → value_of came.bound v ≡ VarTerm v
  was_free2 v h f = elim (with_only keep_came came.next v h) [ inl n ↦ new v n | inr k ↦ sym (stays keep_came came.bound came.next new v k) ∙ f ]

  own_others : (v : ℕ) → value_of first v ≡ VarTerm v → (value_of own v ≡ VarTerm v) ⊎ IsBoundAmong (captured_bindings bs) v
  own_others v f = by_test (all v) refl
    where
      by_test : (b : Bool) → all v ≡ b → (value_of own v ≡ VarTerm v) ⊎ IsBoundAmong (captured_bindings bs) v
      by_test false e = inl (gone all s next own_new v e)
      by_test true e = elim (extends.others v (was_free2 v e f)) [ inl g ↦ inl (free_stays all s next own_new v g) | inr b ↦ inr b ]

  own_further : (v : ℕ) → value_of own v ≡ resolve own (value_of first v)
  own_further v = by_test (keep_came v) refl
    where
      by_test : (b : Bool) → keep_came v ≡ b → value_of own v ≡ resolve own (value_of first v)
      by_test true e =
          stays all s next own_new v (more_kept keep_came came.next v e)
          ∙ (extends.further v
          ∙ (sym (term_stays all s next own_new (value_of came.bound v) (λ w o.
          elim (extends.others w (left_free (value_of came.bound) (value_of came.bound v) (final v) w o)) [ inl f ↦ inr f | inr b ↦ inl (bound_reached w b) ]))
          ∙ ap (resolve own) (sym (stays keep_came came.bound came.next new v e))))
      by_test false e = ap (resolve own) (sym (gone keep_came came.bound came.next new v e))

  pub own_extends : ExtendsBy first own next (captured_bindings bs)
  own_extends = record {
    each = each_written (IsWrittenBinding came.bound s next) (IsBindingReached came.next seen) (IsWrittenBinding first own next) own_written bs extends.each reached;
    once = extends.once;
    others = own_others;
    further = own_further;
  }

  -- and what the variables of the start stand for
  pub own_older : (v : ℕ) → v < start → value_of own v ≡ value_of s v
  own_older v lt = stays all s next own_new v (more_kept keep_came came.next v (keeps_older start seen v lt))
