-- The places of clauses, through each change.
use Rattle.std.proofs.Common.{◌≡◌, ◌∙◌, ℕ, ◌+◌, ◌-◌, ◌<◌, ◌≤◌, Bool, true, false, not, ◌&&◌, ◌||◌, ◌==◌, nat_lt, cond, List, [], ◌∷◌, ◌++◌, map, filter, Option, Some, None, refl, sym, ap, ap₂, subst, arith}
use Rattle.std.specs.Prelude.{IsSome}
use Rattle.std.specs.Option.{is_some}
use Rattle.std.specs.List.{AllByRecursion, list_any}
use Rattle.std.specs.Ordering.{nat_cmp, match_ordering}
use Rattle.std.specs.declared.cmp.Ordering.TheVariants.{Less, Greater}
use Rattle.std.specs.Cmp.{nat_cmp_is, unsigned_ties}
use Rattle.std.specs.Map.{lookup}
use Rattle.std.specs.BTreeMap.{BTreeMap, get, IsOrdered, insert_entry, is_at}
use Rattle.std.proofs.lemmas.Bool.Decides.{nat_tests}
use Rattle.au_term.proofs.LogicLemmas.{both as both_true, number_same, same_number, true_false}
use Rattle.au_term.proofs.OptionLemmas.{some_cond}
use Rattle.run_model.specs.Programs.Clauses.{Clause as ClauseTerms}
use Rattle.run_model.specs.Programs.Databases.{NumberedClause, DynamicProcedure, has_number, procedure_without}
use Rattle.dyn_clauses.specs.declared.indicator.Indicator.{Indicator}
use Rattle.dyn_clauses.specs.declared.place.Place.{Place}
use Rattle.dyn_clauses.specs.PositionIndex.{Placed, first_position, has_numbered, last_position, middle, position_number, numbered_clauses, numbered_entry, without_position}
use Rattle.dyn_clauses.specs.DatabaseView.{Entries, IsDatabase, HavePlaces, clause_at, clause_in, indicator_cmp, is_spot, procedures_meant, without_spot}
use Rattle.dyn_clauses.proofs.EntriesLemmas.{at_self, found_entries, same_indicator, some_each}
use Rattle.dyn_clauses.proofs.ProcedureLemmas.{at_same}

abbrev Procedures : Type 0
Procedures = BTreeMap Indicator Placed

abbrev Places : Type 0
Places = BTreeMap ℕ Place

abbrev place : Indicator → ℕ → Place
place i q = record { procedure = i; position = q }

abbrev pos_at : ℕ → ℕ → Bool
pos_at q p = is_at (nat_cmp q) p

pos_self : (q : ℕ) → pos_at q q ≡ true
pos_self q = sym (unsigned_ties q q) ∙ number_same q

none_some : {X : Type 0} {o : Option X} → o ≡ None → IsSome o → ⊥
none_some e h = true_false (sym h ∙ ap is_some e)

spot_is : (i j : Indicator) (q p : ℕ) → is_spot i q j p ≡ true → (i ≡ j) × (q ≡ p)
spot_is i j q p e = let h = both_true (is_at (indicator_cmp i) j) (pos_at q p) e in (same_indicator i j h.0, at_same q p h.1)

spot_self : (i : Indicator) (q : ℕ) → is_spot i q i q ≡ true
spot_self i q = ap₂ (λ x y. x && y) (at_self i) (pos_self q)

place_same : (i j : Indicator) (p q : ℕ) → Some (place i p) ≡ Some (place j q) → (i ≡ j) × (p ≡ q)
place_same i j p q e = let h : place i p ≡ place j q = cc in (ap (λ x. x.procedure) h, ap (λ x. x.position) h)

-- ---- put

pub absent_spot : (m : Procedures) (a : Places) (number : ℕ) (i : Indicator) (q : ℕ) → IsDatabase m a number → position_number q ≡ number → clause_at m.entries i q ≡ None
absent_spot m a number i q h e = go (clause_at m.entries i q) refl
  where
    go : (o : Option ClauseTerms) → clause_at m.entries i q ≡ o → o ≡ None
    go None k = refl
    go (Some c) k =
        let there = ap (get nat_cmp a) (sym e) ∙ h.kept.placed i q (ap is_some k) in
        let lt = h.below number (ap is_some there) in
        absurd (omega arith)

pub add_kept : (m n : Procedures) (a b : Places) (number : ℕ) (i : Indicator) (q : ℕ) (c : ClauseTerms) → IsDatabase m a number → position_number q ≡ number → IsOrdered indicator_cmp n
    → ((j : Indicator) (p : ℕ) → clause_at n.entries j p ≡ cond (is_spot i q j p) (Some c) (clause_at m.entries j p)) → ((k : ℕ) → get nat_cmp b k ≡ cond (pos_at number k) (Some (place i q)) (get nat_cmp a k))
    → IsDatabase n b (number + 1)
add_kept m n a b number i q c h e ordered clauses places = record {
  kept = record { ordered = ordered; placed = placed; there = there };
  below = below;
}
  where
    other : (k : ℕ) → IsSome (get nat_cmp a k) → pos_at number k ≡ false
    other k s = by (pos_at number k) refl
      where
        by : (x : Bool) → pos_at number k ≡ x → x ≡ false
        by false f = refl
        by true f = let same = at_same number k f in let lt = h.below k s in absurd (omega arith)

    placed : (j : Indicator) (p : ℕ) → IsSome (clause_at n.entries j p) → get nat_cmp b (position_number p) ≡ Some (place j p)
    placed j p s = by (is_spot i q j p) refl (subst IsSome (clauses j p) s)
      where
        by : (x : Bool) → is_spot i q j p ≡ x → IsSome (cond x (Some c) (clause_at m.entries j p)) → get nat_cmp b (position_number p) ≡ Some (place j p)
        by true f t =
            let same = spot_is i j q p f in
            let here : number ≡ position_number p = sym e ∙ ap position_number same.1 in
            places (position_number p) ∙ (ap (λ x. cond x (Some (place i q)) (get nat_cmp a (position_number p))) (ap (λ k. pos_at k (position_number p)) here ∙ pos_self (position_number p)) ∙ ap₂ (λ (x : Indicator) (y : ℕ). Some (place x y)) same.0 same.1)
        by false f t =
            let old = h.kept.placed j p t in
            places (position_number p) ∙ (ap (λ x. cond x (Some (place i q)) (get nat_cmp a (position_number p))) (other (position_number p) (ap is_some old)) ∙ old)

    there : (k : ℕ) (x : Place) → get nat_cmp b k ≡ Some x → IsSome (clause_at n.entries x.procedure x.position) × (position_number x.position ≡ k)
    there k x s = by (pos_at number k) refl (sym (places k) ∙ s)
      where
        by : (y : Bool) → pos_at number k ≡ y → cond y (Some (place i q)) (get nat_cmp a k) ≡ Some x → IsSome (clause_at n.entries x.procedure x.position) × (position_number x.position ≡ k)
        by true f t =
            let same : place i q ≡ x = cc in
            let at_it : IsSome (clause_at n.entries i q) = subst IsSome (sym (clauses i q ∙ ap (λ z. cond z (Some c) (clause_at m.entries i q)) (spot_self i q))) refl in
            subst (λ (z : Place). IsSome (clause_at n.entries z.procedure z.position) × (position_number z.position ≡ k)) same (at_it, e ∙ at_same number k f)
        by false f t =
            let old = h.kept.there k x t in
            (subst IsSome (sym (clauses x.procedure x.position)) (some_cond (is_spot i q x.procedure x.position) c (clause_at m.entries x.procedure x.position) old.0), old.1)

    below : (k : ℕ) → IsSome (get nat_cmp b k) → k < number + 1
    below k s = by (pos_at number k) refl (subst IsSome (places k) s)
      where
        by : (y : Bool) → pos_at number k ≡ y → IsSome (cond y (Some (place i q)) (get nat_cmp a k)) → k < number + 1
        by true f t = let same = at_same number k f in omega arith
        by false f t = let lt = h.below k t in omega arith

-- the same clauses and places
pub database_same : (m n : Procedures) (a b : Places) (number : ℕ) → IsDatabase m a number → IsOrdered indicator_cmp n → ((j : Indicator) (p : ℕ) → clause_at n.entries j p ≡ clause_at m.entries j p) → ((k : ℕ) → get nat_cmp b k ≡ get nat_cmp a k)
    → IsDatabase n b number
database_same m n a b number h ordered clauses places = record {
  kept = record {
    ordered = ordered;
    placed = λ j p s. places (position_number p) ∙ h.kept.placed j p (subst IsSome (clauses j p) s);
    there = λ k x s. let old = h.kept.there k x (sym (places k) ∙ s) in (subst IsSome (sym (clauses x.procedure x.position)) old.0, old.1);
  };
  below = λ k s. h.below k (subst IsSome (places k) s);
}

-- a place made and taken away again
pub place_undone : (m : Procedures) (a b d : Places) (number : ℕ) (x : Place) → IsDatabase m a number → ((k : ℕ) → get nat_cmp b k ≡ cond (pos_at number k) (Some x) (get nat_cmp a k)) → ((k : ℕ) → get nat_cmp d k ≡ cond (pos_at number k) None (get nat_cmp b k))
    → (k : ℕ) → get nat_cmp d k ≡ get nat_cmp a k
place_undone m a b d number x h made gone k = gone k ∙ go (pos_at number k) refl (made k)
  where
    none : (o : Option Place) → get nat_cmp a k ≡ o → pos_at number k ≡ true → None ≡ o
    none None e f = refl
    none (Some y) e f = let same = at_same number k f in let lt = h.below k (ap is_some e) in absurd (omega arith)

    go : (z : Bool) → pos_at number k ≡ z → get nat_cmp b k ≡ cond z (Some x) (get nat_cmp a k) → cond z None (get nat_cmp b k) ≡ get nat_cmp a k
    go true f e = none (get nat_cmp a k) refl f
    go false f e = e

-- ---- taken

pub remove_kept : (m n : Procedures) (a b : Places) (number : ℕ) (x : Place) → HavePlaces m a → get nat_cmp a number ≡ Some x → IsOrdered indicator_cmp n
    → ((j : Indicator) (p : ℕ) → clause_at n.entries j p ≡ cond (is_spot x.procedure x.position j p) None (clause_at m.entries j p)) → ((k : ℕ) → get nat_cmp b k ≡ cond (pos_at number k) None (get nat_cmp a k)) → HavePlaces n b
remove_kept m n a b number x h here ordered clauses places = record { ordered = ordered; placed = placed; there = there }
  where
    placed : (j : Indicator) (p : ℕ) → IsSome (clause_at n.entries j p) → get nat_cmp b (position_number p) ≡ Some (place j p)
    placed j p s = by (is_spot x.procedure x.position j p) refl (subst IsSome (clauses j p) s)
      where
        by : (y : Bool) → is_spot x.procedure x.position j p ≡ y → IsSome (cond y None (clause_at m.entries j p)) → get nat_cmp b (position_number p) ≡ Some (place j p)
        by true f t = absurd cc
        by false f t = places (position_number p) ∙ (ap (λ z. cond z None (get nat_cmp a (position_number p))) (other (pos_at number (position_number p)) refl) ∙ old)
          where
            old : get nat_cmp a (position_number p) ≡ Some (place j p)
            old = h.placed j p t

            other : (z : Bool) → pos_at number (position_number p) ≡ z → z ≡ false
            other false g = refl
            other true g =
                let same : Some x ≡ Some (place j p) = sym here ∙ (ap (get nat_cmp a) (at_same number (position_number p) g) ∙ old) in
                let parts = place_same x.procedure j x.position p same in
                let yes : is_spot x.procedure x.position j p ≡ true = ap₂ (λ u v. is_spot x.procedure x.position u v) (sym parts.0) (sym parts.1) ∙ spot_self x.procedure x.position in
                absurd (true_false (sym yes ∙ f))

    there : (k : ℕ) (y : Place) → get nat_cmp b k ≡ Some y → IsSome (clause_at n.entries y.procedure y.position) × (position_number y.position ≡ k)
    there k y s = by (pos_at number k) refl (sym (places k) ∙ s)
      where
        by : (z : Bool) → pos_at number k ≡ z → cond z None (get nat_cmp a k) ≡ Some y → IsSome (clause_at n.entries y.procedure y.position) × (position_number y.position ≡ k)
        by true f t = absurd cc
        by false f t = (subst IsSome (sym (clauses y.procedure y.position)) (stays (is_spot x.procedure x.position y.procedure y.position) refl), old.1)
          where
            old : IsSome (clause_at m.entries y.procedure y.position) × (position_number y.position ≡ k)
            old = h.there k y t

            stays : (z : Bool) → is_spot x.procedure x.position y.procedure y.position ≡ z → IsSome (cond z None (clause_at m.entries y.procedure y.position))
            stays false g = old.0
            stays true g =
                let same = spot_is x.procedure y.procedure x.position y.position g in
                let number_is : number ≡ k = sym (h.there number x here).1 ∙ (ap position_number same.1 ∙ old.1) in
                absurd (true_false (sym (ap (pos_at number) (sym number_is) ∙ pos_self number) ∙ f))

-- fewer numbers
pub fewer : {X : Type 0} (a b : BTreeMap ℕ X) (test : ℕ → Bool) → ((k : ℕ) → get nat_cmp b k ≡ cond (test k) None (get nat_cmp a k)) → (k : ℕ) → IsSome (get nat_cmp b k) → IsSome (get nat_cmp a k)
fewer a b test places k s = go (test k) (subst IsSome (places k) s)
  where
    go : (z : Bool) → IsSome (cond z None (get nat_cmp a k)) → IsSome (get nat_cmp a k)
    go true t = absurd cc
    go false t = t

-- ---- numbers of clauses

module _ (m : Procedures) (a : Places) (h : HavePlaces m a) (number : ℕ) where
  -- the clauses of a procedure have their places
  own_place : (e : Indicator × Placed) (q : ℕ) → lookup (is_at (indicator_cmp e.0)) m.entries ≡ Some e.1 → IsSome (lookup (pos_at q) e.1) → get nat_cmp a (position_number q) ≡ Some (place e.0 q)
  own_place e q own s = h.placed e.0 q (subst (λ o. IsSome (clause_in o q)) (sym own) s)

  abbrev Numbers : (ℕ → Bool) → Placed → Type 0
  Numbers test ps = AllByRecursion (λ d. (position_number d.0 == number) ≡ test d.0) ps

  -- by a test of positions
  any_by : (test : ℕ → Bool) (ps : Placed) → Numbers test ps → list_any (λ c. c.number == number) (numbered_clauses ps) ≡ list_any (λ d. test d.0) ps
  any_by test [] f = refl
  any_by test (d ∷ ps) f = ap₂ (λ x y. x || y) f.0 (any_by test ps f.1)

  kept_by : (test : ℕ → Bool) (ps : Placed) → Numbers test ps → numbered_clauses (filter (λ d. not (test d.0)) ps) ≡ filter (λ c. not (c.number == number)) (numbered_clauses ps)
  kept_by test [] f = refl
  kept_by test (d ∷ ps) f = go (test d.0) (position_number d.0 == number) f.0 (kept_by test ps f.1)
    where
      go : (x y : Bool) → y ≡ x → numbered_clauses (filter (λ d. not (test d.0)) ps) ≡ filter (λ c. not (c.number == number)) (numbered_clauses ps)
          → numbered_clauses (cond (not x) (d ∷ filter (λ d. not (test d.0)) ps) (filter (λ d. not (test d.0)) ps)) ≡ cond (not y) (numbered_entry d ∷ filter (λ c. not (c.number == number)) (numbered_clauses ps)) (filter (λ c. not (c.number == number)) (numbered_clauses ps))
      go true true e k = k
      go false false e k = ap (λ cs. numbered_entry d ∷ cs) k
      go true false e k = absurd cc
      go false true e k = absurd cc

  none_any : (ps : Placed) → list_any (λ (d : ℕ × ClauseTerms). false) ps ≡ false
  none_any [] = refl
  none_any (d ∷ ps) = none_any ps

  all_stay : (ps : Placed) → filter (λ (d : ℕ × ClauseTerms). not false) ps ≡ ps
  all_stay [] = refl
  all_stay (d ∷ ps) = ap (λ (ds : Placed). d ∷ ds) (all_stay ps)

  -- no clause has the number
  module _ (none : get nat_cmp a number ≡ None) where
    no_numbers : (e : Indicator × Placed) (ds : Placed) → lookup (is_at (indicator_cmp e.0)) m.entries ≡ Some e.1 → AllByRecursion (λ d. IsSome (lookup (pos_at d.0) e.1)) ds → Numbers (λ q. false) ds
    no_numbers e [] own s = tt
    no_numbers e (d ∷ ds) own s = (go (position_number d.0 == number) refl, no_numbers e ds own s.1)
      where
        go : (x : Bool) → (position_number d.0 == number) ≡ x → x ≡ false
        go false f = refl
        go true f =
            let there = own_place e d.0 own s.0 in
            let gone : get nat_cmp a (position_number d.0) ≡ None = ap (get nat_cmp a) (same_number (position_number d.0) number f) ∙ none in
            absurd (none_some gone (ap is_some there))

    none_in : (es : Entries) → AllByRecursion (λ e. lookup (is_at (indicator_cmp e.0)) m.entries ≡ Some e.1) es → list_any (has_number number) (procedures_meant es) ≡ false
    none_in [] f = refl
    none_in (e ∷ es) f = ap₂ (λ x y. x || y) (any_by (λ q. false) e.1 (no_numbers e e.1 f.0 (some_each e.1)) ∙ none_any e.1) (none_in es f.1)

    pub none_numbered : list_any (has_number number) (procedures_meant m.entries) ≡ false
    none_numbered = none_in m.entries (found_entries m.entries h.ordered)

  -- the clause at a place has the number
  module _ (x : Place) (here : get nat_cmp a number ≡ Some x) where
    spot_numbers : (e : Indicator × Placed) (ds : Placed) → lookup (is_at (indicator_cmp e.0)) m.entries ≡ Some e.1 → AllByRecursion (λ d. IsSome (lookup (pos_at d.0) e.1)) ds → Numbers (λ q. is_spot x.procedure x.position e.0 q) ds
    spot_numbers e [] own s = tt
    spot_numbers e (d ∷ ds) own s = (go (position_number d.0 == number) (is_spot x.procedure x.position e.0 d.0) refl refl, spot_numbers e ds own s.1)
      where
        go : (y z : Bool) → (position_number d.0 == number) ≡ y → is_spot x.procedure x.position e.0 d.0 ≡ z → y ≡ z
        go true true f g = refl
        go false false f g = refl
        go true false f g =
            let same : Some x ≡ Some (place e.0 d.0) = sym here ∙ (ap (get nat_cmp a) (sym (same_number (position_number d.0) number f)) ∙ own_place e d.0 own s.0) in
            let parts = place_same x.procedure e.0 x.position d.0 same in
            let yes : is_spot x.procedure x.position e.0 d.0 ≡ true = ap₂ (λ u v. is_spot x.procedure x.position u v) (sym parts.0) (sym parts.1) ∙ spot_self x.procedure x.position in
            absurd (true_false (sym yes ∙ g))
        go false true f g =
            let same = spot_is x.procedure e.0 x.position d.0 g in
            let is : position_number d.0 ≡ number = ap position_number (sym same.1) ∙ (h.there number x here).1 in
            absurd (true_false (sym (ap (λ k. k == number) is ∙ number_same number) ∙ f))

    without_one : (e : Indicator × Placed) → lookup (is_at (indicator_cmp e.0)) m.entries ≡ Some e.1
        → numbered_clauses (cond (is_at (indicator_cmp x.procedure) e.0) (without_position x.position e.1) e.1) ≡ filter (λ c. not (c.number == number)) (numbered_clauses e.1)
    without_one e own = go (is_at (indicator_cmp x.procedure) e.0) (spot_numbers e e.1 own (some_each e.1))
      where
        go : (b : Bool) → Numbers (λ q. b && pos_at x.position q) e.1 → numbered_clauses (cond b (without_position x.position e.1) e.1) ≡ filter (λ c. not (c.number == number)) (numbered_clauses e.1)
        go true f = kept_by (pos_at x.position) e.1 f
        go false f = sym (ap numbered_clauses (all_stay e.1)) ∙ kept_by (λ q. false) e.1 f

    without_in : (es : Entries) → AllByRecursion (λ e. lookup (is_at (indicator_cmp e.0)) m.entries ≡ Some e.1) es → procedures_meant (without_spot x.procedure x.position es) ≡ map (procedure_without number) (procedures_meant es)
    without_in [] f = refl
    without_in (e ∷ es) f = ap₂ (λ (cs : List NumberedClause) (ps : List DynamicProcedure). (record { name = e.0.name; arity = e.0.arity; clauses = cs }) ∷ ps) (without_one e f.0) (without_in es f.1)

    pub taken_numbered : procedures_meant (without_spot x.procedure x.position m.entries) ≡ map (procedure_without number) (procedures_meant m.entries)
    taken_numbered = without_in m.entries (found_entries m.entries h.ordered)

-- ---- clauses with a number

pub numbered_there : (q : ℕ) (ps : Placed) → IsSome (lookup (pos_at q) ps) → has_numbered ps (position_number q) ≡ true
numbered_there q [] s = absurd cc
numbered_there q (d ∷ ps) s = go (pos_at q d.0) refl s (numbered_there q ps)
  where
    or_true : (x y : Bool) → y ≡ true → (x || y) ≡ true
    or_true true y e = refl
    or_true false y e = e

    go : (b : Bool) → pos_at q d.0 ≡ b → IsSome (cond b (Some d.1) (lookup (pos_at q) ps)) → (IsSome (lookup (pos_at q) ps) → has_numbered ps (position_number q) ≡ true) → (position_number d.0 == position_number q) || has_numbered ps (position_number q) ≡ true
    go true e t r = ap (λ x. x || has_numbered ps (position_number q)) (ap (λ k. position_number k == position_number q) (sym (at_same q d.0 e)) ∙ number_same (position_number q))
    go false e t r = or_true (position_number d.0 == position_number q) (has_numbered ps (position_number q)) (r t)

pub numbered_found : (k : ℕ) (ps ds : Placed) → AllByRecursion (λ d. IsSome (lookup (pos_at d.0) ps)) ds → has_numbered ds k ≡ true → (q : ℕ) × (IsSome (lookup (pos_at q) ps)) × (position_number q ≡ k)
numbered_found k ps [] s e = absurd cc
numbered_found k ps (d ∷ ds) s e = go (position_number d.0 == k) refl e (numbered_found k ps ds s.1)
  where
    go : (x : Bool) → (position_number d.0 == k) ≡ x → (x || has_numbered ds k) ≡ true → (has_numbered ds k ≡ true → (q : ℕ) × (IsSome (lookup (pos_at q) ps)) × (position_number q ≡ k)) → (q : ℕ) × (IsSome (lookup (pos_at q) ps)) × (position_number q ≡ k)
    go true f t r = (d.0, s.0, same_number (position_number d.0) k f)
    go false f t r = r t

any_entry : (number : ℕ) (i : Indicator) (es : Entries) (ps : Placed) → lookup (is_at (indicator_cmp i)) es ≡ Some ps → list_any (λ c. c.number == number) (numbered_clauses ps) ≡ true → list_any (has_number number) (procedures_meant es) ≡ true
any_entry number i [] ps l t = absurd cc
any_entry number i (e ∷ es) ps l t = go (is_at (indicator_cmp i) e.0) l (any_entry number i es ps)
  where
    or_true : (x y : Bool) → y ≡ true → (x || y) ≡ true
    or_true true y h = refl
    or_true false y h = h

    go : (b : Bool) → cond b (Some e.1) (lookup (is_at (indicator_cmp i)) es) ≡ Some ps → (lookup (is_at (indicator_cmp i)) es ≡ Some ps → list_any (λ c. c.number == number) (numbered_clauses ps) ≡ true → list_any (has_number number) (procedures_meant es) ≡ true)
        → (list_any (λ c. c.number == number) (numbered_clauses e.1) || list_any (has_number number) (procedures_meant es)) ≡ true
    go true k r = let same : e.1 ≡ ps = cc in ap (λ x. x || list_any (has_number number) (procedures_meant es)) (ap (λ (qs : Placed). list_any (λ c. c.number == number) (numbered_clauses qs)) same ∙ t)
    go false k r = or_true (list_any (λ c. c.number == number) (numbered_clauses e.1)) (list_any (has_number number) (procedures_meant es)) (r k t)

numbered_any : (ps : Placed) (k : ℕ) → list_any (λ c. c.number == k) (numbered_clauses ps) ≡ has_numbered ps k
numbered_any [] k = refl
numbered_any (d ∷ ps) k = ap (λ x. (position_number d.0 == k) || x) (numbered_any ps k)

pub any_numbered : (m : Procedures) (a : Places) (number : ℕ) (x : Place) → HavePlaces m a → get nat_cmp a number ≡ Some x → list_any (has_number number) (procedures_meant m.entries) ≡ true
any_numbered m a number x h here = go (lookup (is_at (indicator_cmp x.procedure)) m.entries) refl (h.there number x here)
  where
    go : (o : Option Placed) → lookup (is_at (indicator_cmp x.procedure)) m.entries ≡ o → IsSome (clause_in o x.position) × (position_number x.position ≡ number) → list_any (has_number number) (procedures_meant m.entries) ≡ true
    go None l t = absurd (none_some {X = ClauseTerms} {o = None} refl t.0)
    go (Some ps) l t = any_entry number x.procedure m.entries ps l (numbered_any ps number ∙ (ap (has_numbered ps) (sym t.1) ∙ numbered_there x.position ps t.0))

-- ---- a whole procedure taken away

pub abolish_kept : (m n : Procedures) (a b : Places) (i : Indicator) (ps : Placed) → HavePlaces m a → IsOrdered indicator_cmp n → Some ps ≡ get indicator_cmp m i → ((j : Indicator) → get indicator_cmp n j ≡ cond (is_at (indicator_cmp i) j) None (get indicator_cmp m j))
    → ((k : ℕ) → get nat_cmp b k ≡ cond (has_numbered ps k) None (get nat_cmp a k)) → HavePlaces n b
abolish_kept m n a b i ps h ordered known procedures places = record { ordered = ordered; placed = placed; there = there }
  where
    own : (q : ℕ) → IsSome (lookup (pos_at q) ps) → get nat_cmp a (position_number q) ≡ Some (place i q)
    own q s = h.placed i q (subst (λ o. IsSome (clause_in o q)) known s)

    placed : (j : Indicator) (p : ℕ) → IsSome (clause_at n.entries j p) → get nat_cmp b (position_number p) ≡ Some (place j p)
    placed j p s = by (is_at (indicator_cmp i) j) refl (subst (λ o. IsSome (clause_in o p)) (procedures j) s)
      where
        by : (x : Bool) → is_at (indicator_cmp i) j ≡ x → IsSome (clause_in (cond x None (get indicator_cmp m j)) p) → get nat_cmp b (position_number p) ≡ Some (place j p)
        by true f t = absurd cc
        by false f t = places (position_number p) ∙ (ap (λ x. cond x None (get nat_cmp a (position_number p))) (other (has_numbered ps (position_number p)) refl) ∙ old)
          where
            old : get nat_cmp a (position_number p) ≡ Some (place j p)
            old = h.placed j p t

            other : (z : Bool) → has_numbered ps (position_number p) ≡ z → z ≡ false
            other false g = refl
            other true g =
                let found = numbered_found (position_number p) ps ps (some_each ps) g in
                let same : Some (place i found.0) ≡ Some (place j p) = sym (own found.0 found.1) ∙ (ap (get nat_cmp a) found.2 ∙ old) in
                let yes : is_at (indicator_cmp i) j ≡ true = ap (is_at (indicator_cmp i)) (sym (place_same i j found.0 p same).0) ∙ at_self i in
                absurd (true_false (sym yes ∙ f))

    there : (k : ℕ) (x : Place) → get nat_cmp b k ≡ Some x → IsSome (clause_at n.entries x.procedure x.position) × (position_number x.position ≡ k)
    there k x s = by (has_numbered ps k) refl (sym (places k) ∙ s)
      where
        by : (z : Bool) → has_numbered ps k ≡ z → cond z None (get nat_cmp a k) ≡ Some x → IsSome (clause_at n.entries x.procedure x.position) × (position_number x.position ≡ k)
        by true f t = absurd cc
        by false f t = (subst (λ o. IsSome (clause_in o x.position)) (sym (procedures x.procedure)) (stays (is_at (indicator_cmp i) x.procedure) refl), old.1)
          where
            old : IsSome (clause_at m.entries x.procedure x.position) × (position_number x.position ≡ k)
            old = h.there k x t

            stays : (z : Bool) → is_at (indicator_cmp i) x.procedure ≡ z → IsSome (clause_in (cond z None (get indicator_cmp m x.procedure)) x.position)
            stays false g = old.0
            stays true g =
                let same = same_indicator i x.procedure g in
                let s : IsSome (lookup (pos_at x.position) ps) = subst (λ o. IsSome (clause_in o x.position)) (sym (known ∙ ap (get indicator_cmp m) same)) old.0 in
                let yes : has_numbered ps k ≡ true = ap (has_numbered ps) (sym old.1) ∙ numbered_there x.position ps s in
                absurd (true_false (sym yes ∙ f))

pub placed_same : (m n : Procedures) (a : Places) → HavePlaces m a → IsOrdered indicator_cmp n → n.entries ≡ m.entries → HavePlaces n a
placed_same m n a h ordered same = record {
  ordered = ordered;
  placed = λ j p s. h.placed j p (subst (λ (es : Entries). IsSome (clause_at es j p)) same s);
  there = λ k x s. let old = h.there k x s in (subst (λ (es : Entries). IsSome (clause_at es x.procedure x.position)) (sym same) old.0, old.1);
}

-- no such place
pub placed_none : (m : Procedures) (a b : Places) (number : ℕ) → HavePlaces m a → get nat_cmp a number ≡ None → ((k : ℕ) → get nat_cmp b k ≡ cond (pos_at number k) None (get nat_cmp a k)) → HavePlaces m b
placed_none m a b number h none places = record {
  ordered = h.ordered;
  placed = λ j p s. same (position_number p) ∙ h.placed j p s;
  there = λ k x s. h.there k x (sym (same k) ∙ s);
}
  where
    same : (k : ℕ) → get nat_cmp b k ≡ get nat_cmp a k
    same k = places k ∙ go (pos_at number k) refl
      where
        go : (z : Bool) → pos_at number k ≡ z → cond z None (get nat_cmp a k) ≡ get nat_cmp a k
        go true f = sym (ap (get nat_cmp a) (sym (at_same number k f)) ∙ none)
        go false f = refl

-- ---- the ends

pub number_first : (n : ℕ) → n < middle → position_number (first_position n) ≡ n
number_first n lt = let t : nat_lt (first_position n) middle ≡ true = grind (arith, nat_tests) in ap (λ b. cond b (first_position (first_position n)) (first_position n - middle)) t ∙ omega arith

pub number_last : (n : ℕ) → position_number (last_position n) ≡ n
number_last n = let t : nat_lt (last_position n) middle ≡ false = grind (arith, nat_tests) in ap (λ b. cond b (first_position (last_position n)) (last_position n - middle)) t ∙ omega arith

above_first : (q n : ℕ) → n < middle → position_number q < n → first_position n < q
above_first q n lt h = go (nat_lt q middle) refl (subst (λ k. k < n) refl h)
  where
    go : (b : Bool) → nat_lt q middle ≡ b → cond b (first_position q) (q - middle) < n → first_position n < q
    go true e k = let l : q < middle = grind (arith, nat_tests) in omega arith
    go false e k = let l : middle ≤ q = grind (arith, nat_tests) in omega arith

below_last : (q n : ℕ) → position_number q < n → q < last_position n
below_last q n h = go (nat_lt q middle) refl h
  where
    go : (b : Bool) → nat_lt q middle ≡ b → cond b (first_position q) (q - middle) < n → q < last_position n
    go true e k = let l : q < middle = grind (arith, nat_tests) in omega arith
    go false e k = let l : middle ≤ q = grind (arith, nat_tests) in omega arith

put_front : (q : ℕ) (c : ClauseTerms) (ps : Placed) → AllByRecursion (λ d. q < d.0) ps → insert_entry nat_cmp ps q c ≡ (q, c) ∷ ps
put_front q c [] h = refl
put_front q c (d ∷ ps) h = ap (λ o. match_ordering o ((q, c) ∷ d ∷ ps) ((d.0, c) ∷ ps) (d ∷ insert_entry nat_cmp ps q c)) (sym (nat_cmp_is q d.0 Less h.0))

put_back : (q : ℕ) (c : ClauseTerms) (ps : Placed) → AllByRecursion (λ d. d.0 < q) ps → insert_entry nat_cmp ps q c ≡ ps ++ (q, c) ∷ []
put_back q c [] h = refl
put_back q c (d ∷ ps) h = ap (λ o. match_ordering o ((q, c) ∷ d ∷ ps) ((d.0, c) ∷ ps) (d ∷ insert_entry nat_cmp ps q c)) (sym (nat_cmp_is q d.0 Greater h.0)) ∙ ap (λ (ds : Placed). d ∷ ds) (put_back q c ps h.1)

numbered_snoc : (ps : Placed) (d : ℕ × ClauseTerms) → numbered_clauses (ps ++ d ∷ []) ≡ numbered_clauses ps ++ numbered_entry d ∷ []
numbered_snoc [] d = refl
numbered_snoc (e ∷ ps) d = ap (λ cs. numbered_entry e ∷ cs) (numbered_snoc ps d)

module _ (m : Procedures) (a : Places) (n : ℕ) (h : IsDatabase m a n) (i : Indicator) (ps : Placed) (known : lookup (is_at (indicator_cmp i)) m.entries ≡ Some ps) where
  numbers_below : (ds : Placed) → AllByRecursion (λ d. IsSome (lookup (pos_at d.0) ps)) ds → AllByRecursion (λ d. position_number d.0 < n) ds
  numbers_below [] s = tt
  numbers_below (d ∷ ds) s = (h.below (position_number d.0) (ap is_some (h.kept.placed i d.0 (subst (λ o. IsSome (clause_in o d.0)) (sym known) s.0))), numbers_below ds s.1)

  all_above : (ds : Placed) → n < middle → AllByRecursion (λ d. position_number d.0 < n) ds → AllByRecursion (λ d. first_position n < d.0) ds
  all_above [] lt s = tt
  all_above (d ∷ ds) lt s = (above_first d.0 n lt s.0, all_above ds lt s.1)

  all_below : (ds : Placed) → AllByRecursion (λ d. position_number d.0 < n) ds → AllByRecursion (λ d. d.0 < last_position n) ds
  all_below [] s = tt
  all_below (d ∷ ds) s = (below_last d.0 n s.0, all_below ds s.1)

  pub put_first : (c : ClauseTerms) → n < middle → numbered_clauses (insert_entry nat_cmp ps (first_position n) c) ≡ (record { number = n; clause = c }) ∷ numbered_clauses ps
  put_first c lt =
      ap numbered_clauses (put_front (first_position n) c ps (all_above ps lt (numbers_below ps (some_each ps)))) ∙ ap (λ k. (record { number = k; clause = c }) ∷ numbered_clauses ps) (number_first n lt)

  pub put_last : (c : ClauseTerms) → numbered_clauses (insert_entry nat_cmp ps (last_position n) c) ≡ numbered_clauses ps ++ (record { number = n; clause = c }) ∷ []
  put_last c =
      ap numbered_clauses (put_back (last_position n) c ps (all_below ps (numbers_below ps (some_each ps))))
      ∙ (numbered_snoc ps (last_position n, c) ∙ ap (λ k. numbered_clauses ps ++ (record { number = k; clause = c }) ∷ []) (number_last n))
