-- The bindings that were made since a mark.
use Rattle.std.proofs.Common.{◌≡◌, ◌⊎◌, inl, inr, ℕ, zero, suc, ◌+◌, ◌-◌, ◌<◌, ◌≤◌, Bool, true, false, cond, nat_lt, ◌==◌, ◌||◌, List, [], ◌∷◌, ◌++◌, length, take, drop, get_or, append-nil, append_assoc, refl, sym, ap, ap₂, ◌∙◌, subst, arith}
use Rattle.std.specs.List.{Contains, AllByRecursion}
use Rattle.std.specs.declared.cmp.Ordering.TheVariants.{Less}
use Rattle.std.specs.List.Sorted.{IsStrictlyIncreasing, IsStrictlySortedBy}
use Rattle.std.specs.Ordering.{nat_cmp}
use Rattle.std.proofs.Math.ListN.{get_or-eq_default}
use Rattle.std.proofs.Math.Seq.{take-length}
use Rattle.std.proofs.lemmas.Bool.Decides.{nat_tests}
use Rattle.std.proofs.lemmas.List.{get_or-take, length-drop, length-take-le, take-append-drop}
use Rattle.std.proofs.lemmas.List.Elements.{Contains-append_left, Contains-push, Contains-push_cases}
use Rattle.std.proofs.lemmas.Map.Keys.{sorted_from_strictly_increasing}
use Rattle.au_term.specs.Term.{Term, VarTerm}
use Rattle.au_model.specs.Terms.Each.{Each}
use Rattle.au_model.specs.Terms.Substitutions.{Substitution, value_of, resolve}
use Rattle.au_model.proofs.ApplyLemmas.{apply-apply}
use Rattle.au_model.proofs.EachLemmas.{each-drop}
use Rattle.clause_compile.specs.Places.{CodeView, Keeps}
use Rattle.clause_compile.proofs.PlaceMeaningLemmas.{added_keeps}
use Rattle.binding_array.specs.Represented.{variable_cell, cell_term, IsBoundCell, IsFalling}
use Rattle.binding_array.specs.declared.cell.BindingCell.{BindingCell}
use Rattle.binding_array.specs.declared.cell.BindingCell.TheVariants.{Free, Var, Int, Atom, Compound}
use Rattle.binding_array.proofs.RepresentedLemmas.{written}
use Rattle.cell_store.specs.CellMeanings.{substitution_in}
use Rattle.cell_store.specs.HeapView.{heap_text, cut_heap}
use Rattle.cell_store.specs.MadeBindings.{AreSinceMark, Bindings, with_binding, bindings_of, substitution_of, AreRising, AreMadeSince, IsSince}
use Rattle.cell_store.specs.StoreView.{StoreView, IsConsistent, IsConsistentAt, IsValueIn, meaning, moment_at, view_of}
use Rattle.cell_store.specs.Undoing.{Parts, IsWithin, freed, undone}
use Rattle.cell_store.specs.declared.mark.Mark.{Mark}
use Rattle.cell_store.proofs.CellMeaningLemmas.{is_free, is_bound_cell, free_or_bound, free_stands, bound_stands, by_values, has_value}
use Rattle.cell_store.proofs.OccurrenceLemmas.{agreed}
use Rattle.cell_store.proofs.SubstitutionLemmas.{value_kept}
use Rattle.cell_store.proofs.UndoingLemmas.{each_at, length-freed}

-- one more new variable
pub pushed_all : (trail xs : List ℕ) (below n : ℕ) → ((v : ℕ) → IsSince trail below n v → Contains xs v) → (v : ℕ) → IsSince trail below (n + 1) v → Contains (xs ++ n ∷ []) v
pushed_all trail xs below n all v (inl h) = Contains-append_left xs (n ∷ []) v (all v (inl h))
pushed_all trail xs below n all v (inr h) = by_test (nat_lt v n) refl
  where
    by_test : (b : Bool) → nat_lt v n ≡ b → Contains (xs ++ n ∷ []) v
    by_test true e = let lt : v < n = grind (arith, nat_tests) in Contains-append_left xs (n ∷ []) v (all v (inr (h.0, lt)))
    by_test false e = let le : n ≤ v = grind (arith, nat_tests) in let up : v < n + 1 = h.1 in let same : n ≡ v = omega arith in subst (Contains (xs ++ n ∷ [])) same (Contains-push xs n)

pub pushed_others : (trail xs : List ℕ) (below n : ℕ) → below ≤ n → ((v : ℕ) → Contains xs v → IsSince trail below n v) → (v : ℕ) → Contains (xs ++ n ∷ []) v → IsSince trail below (n + 1) v
pushed_others trail xs below n le others v h = elim (Contains-push_cases xs n v h) [ inl k ↦ wider (others v k) | inr e ↦ inr (omega arith, omega arith) ]
  where
    wider : IsSince trail below n v → IsSince trail below (n + 1) v
    wider (inl k) = inl k
    wider (inr k) = let up : v < n = k.1 in inr (k.0, omega arith)

-- elements of a list
has : ℕ → List ℕ → Bool
has v [] = false
has v (u ∷ us) = (u == v) || has v us

tail_contains : (u : ℕ) (us : List ℕ) (v : ℕ) → Contains us v → Contains (u ∷ us) v
tail_contains u us v c = (suc c.0, omega (arith, c.1), c.2)

has_contained : (v : ℕ) (us : List ℕ) → Contains us v → has v us ≡ true
unfolding has
has_contained v [] c = let lt = c.1 in absurd (omega arith)
has_contained v (u ∷ us) c = by_test (λ d. has_contained v us d) (u == v) refl c.0 c.1 c.2
  where
    by_test : (Contains us v → has v us ≡ true) → (b : Bool) → (u == v) ≡ b → (i : ℕ) → i < length (u ∷ us) → get_or (u ∷ us) i v ≡ v → ((u == v) || has v us) ≡ true
    by_test h true e i lt is = ap (λ b. b || has v us) e
    by_test h false e zero lt is = absurd (let k : (u == v) ≡ true = grind (arith, nat_tests) in cc)
    by_test h false e (suc i) lt is = ap (λ b. b || has v us) e ∙ h (i, omega arith, is)

-- up to where the new variables go
pub up_to : (trail : List ℕ) (below count n v : ℕ) → count ≤ n → IsSince trail below count v → IsSince trail below n v
up_to trail below count n v le (inl h) = inl h
up_to trail below count n v le (inr h) = let up : v < count = h.1 in inr (h.0, omega arith)

pub from_up_to : (trail : List ℕ) (below count n v : ℕ) → n ≤ count → IsSince trail below n v → IsSince trail below count v
from_up_to trail below count n v le h = up_to trail below n count v le h

-- a list of bindings
bound_found : (u v : ℕ) (t now : Term) (s : Substitution) (h : Bool) → (u ≡ v → t ≡ now) → value_of s v ≡ cond h now (VarTerm v) → value_of ((u, t) ∷ s) v ≡ cond ((u == v) || h) now (VarTerm v)
bound_found u v t now s h e k = by_test (u == v) refl
  where
    by_test : (b : Bool) → (u == v) ≡ b → cond b t (value_of s v) ≡ cond (b || h) now (VarTerm v)
    by_test true q = e (grind (arith, nat_tests))
    by_test false q = k

either : (h : Bool) (a b : Term) → a ≡ b → cond h a b ≡ a
either true a b e = refl
either false a b e = sym e

free_found : (u v : ℕ) (now : Term) (s : Substitution) (h : Bool) → (u ≡ v → now ≡ VarTerm v) → value_of s v ≡ cond h now (VarTerm v) → value_of s v ≡ cond ((u == v) || h) now (VarTerm v)
free_found u v now s h e k = by_test (u == v) refl
  where
    by_test : (b : Bool) → (u == v) ≡ b → value_of s v ≡ cond (b || h) now (VarTerm v)
    by_test true q = k ∙ either h now (VarTerm v) (e (grind (arith, nat_tests)))
    by_test false q = k

with_found : (st : StoreView) (c : BindingCell) (u v : ℕ) (bs : Bindings) (now : Term) (h : Bool) → (c ≡ Free → u ≡ v → now ≡ VarTerm v) → (IsBoundCell c → u ≡ v → meaning st c ≡ now) → value_of (substitution_of st bs) v ≡ cond h now (VarTerm v)
    → value_of (substitution_of st (with_binding c u bs)) v ≡ cond ((u == v) || h) now (VarTerm v)
with_found st Free u v bs now h f b k = free_found u v now (substitution_of st bs) h (f refl) k
with_found st (Var w) u v bs now h f b k = bound_found u v (meaning st (Var w)) now (substitution_of st bs) h (b tt) k
with_found st (Int z) u v bs now h f b k = bound_found u v (meaning st (Int z)) now (substitution_of st bs) h (b tt) k
with_found st (Atom a) u v bs now h f b k = bound_found u v (meaning st (Atom a)) now (substitution_of st bs) h (b tt) k
with_found st (Compound at base) u v bs now h f b k = bound_found u v (meaning st (Compound at base)) now (substitution_of st bs) h (b tt) k

each_with : (P : ℕ × BindingCell → Type 0) (c : BindingCell) (v : ℕ) (bs : Bindings) → (IsBoundCell c → P (v, c)) → Each P bs → Each P (with_binding c v bs)
each_with P Free v bs h k = k
each_with P (Var w) v bs h k = (h tt, k)
each_with P (Int z) v bs h k = (h tt, k)
each_with P (Atom a) v bs h k = (h tt, k)
each_with P (Compound at base) v bs h k = (h tt, k)

rising_with : (c : BindingCell) (v : ℕ) (bs : Bindings) → Each (λ d. v < d.0) bs → AreRising bs → AreRising (with_binding c v bs)
rising_with Free v bs h k = k
rising_with (Var w) v bs h k = (h, k)
rising_with (Int z) v bs h k = (h, k)
rising_with (Atom a) v bs h k = (h, k)
rising_with (Compound at base) v bs h k = (h, k)

module _ (cells : List BindingCell) where
  pub each_of : (P : ℕ × BindingCell → Type 0) (vs : List ℕ) → ((v : ℕ) → Contains vs v → IsBoundCell (variable_cell cells v) → P (v, variable_cell cells v)) → Each P (bindings_of cells vs)
  each_of P [] h = tt
  each_of P (v ∷ vs) h = each_with P (variable_cell cells v) v (bindings_of cells vs) (h v (0, omega arith, refl)) (each_of P vs (λ u c. h u (tail_contains v vs u c)))

  above : (v : ℕ) (vs : List ℕ) → AllByRecursion (λ u. nat_cmp v u ≡ Less) vs → Each (λ d. v < d.0) (bindings_of cells vs)
  above v [] h = tt
  above v (u ∷ us) h = each_with (λ d. v < d.0) (variable_cell cells u) u (bindings_of cells us) (λ b. let less : nat_cmp v u ≡ Less = h.0 in grind (arith, nat_tests)) (above v us h.1)

  rising : (vs : List ℕ) → IsStrictlySortedBy nat_cmp vs → AreRising (bindings_of cells vs)
  unfolding IsStrictlySortedBy
  rising [] h = tt
  rising (v ∷ vs) h = rising_with (variable_cell cells v) v (bindings_of cells vs) (above v vs h.0) (rising vs h.1)

  pub bindings_rise : (vs : List ℕ) → IsStrictlyIncreasing vs → AreRising (bindings_of cells vs)
  bindings_rise vs h = rising vs (sorted_from_strictly_increasing vs h)

-- cells that were freed
freed_or_same : (vs : List ℕ) (cells : List BindingCell) (v : ℕ) → Each (λ u. u < length cells) vs → Contains vs v ⊎ (variable_cell (freed vs cells) v ≡ variable_cell cells v)
freed_or_same [] cells v h = inr refl
freed_or_same (u ∷ us) cells v h = by_test (freed_or_same us cells v h.1) (u == v) refl
  where
    there : u < length (freed us cells)
    there = let lt = h.0 in omega (arith, length-freed us cells)

    by_test : Contains us v ⊎ (variable_cell (freed us cells) v ≡ variable_cell cells v) → (b : Bool) → (u == v) ≡ b → Contains (u ∷ us) v ⊎ (variable_cell (freed (u ∷ us) cells) v ≡ variable_cell cells v)
    by_test k true e = inl (0, omega arith, grind (arith, nat_tests))
    by_test (inl c) false e = inl (tail_contains u us v c)
    by_test (inr k) false e = inr (written (freed us cells) u v Free there ∙ (ap (λ b. cond b Free (variable_cell (freed us cells) v)) e ∙ k))

freed_free : (vs : List ℕ) (cells : List BindingCell) (v : ℕ) → Each (λ u. u < length cells) vs → has v vs ≡ true → variable_cell (freed vs cells) v ≡ Free
unfolding has
freed_free [] cells v h c = absurd cc
freed_free (u ∷ us) cells v h c = by_test (freed_free us cells v h.1) (u == v) refl c
  where
    there : u < length (freed us cells)
    there = let lt = h.0 in omega (arith, length-freed us cells)

    by_test : (has v us ≡ true → variable_cell (freed us cells) v ≡ Free) → (b : Bool) → (u == v) ≡ b → ((u == v) || has v us) ≡ true → variable_cell (freed (u ∷ us) cells) v ≡ Free
    by_test k true e q = written (freed us cells) u v Free there ∙ ap (λ b. cond b Free (variable_cell (freed us cells) v)) e
    by_test k false e q = written (freed us cells) u v Free there ∙ (ap (λ b. cond b Free (variable_cell (freed us cells) v)) e ∙ k (sym (ap (λ b. b || has v us) e) ∙ q))

-- the cells at a mark
module _ (m : Mark) (trail : List ℕ) (cells : List BindingCell) (less : m.variables ≤ length cells) (there : Each (λ u. u < length cells) trail) where
  abbrev segment : List ℕ
  segment = drop m.trail trail

  abbrev then : List BindingCell
  then = undone m trail cells

  within : Each (λ u. u < length cells) segment
  within = each-drop (λ u. u < length cells) m.trail trail there

  new_free : (v : ℕ) → m.variables ≤ v → variable_cell then v ≡ Free
  new_free v le = get_or-eq_default then Free (omega (arith, length-take-le m.variables (freed segment cells) (omega (arith, length-freed segment cells))))

  older : (v : ℕ) → v < m.variables → variable_cell then v ≡ variable_cell (freed segment cells) v
  older v lt = get_or-take m.variables (freed segment cells) v Free lt

  pub free_or_same : (v : ℕ) → IsBoundCell (variable_cell then v) → variable_cell then v ≡ variable_cell cells v
  free_or_same v b = by_test (nat_lt v m.variables) refl
    where
      by_test : (t : Bool) → nat_lt v m.variables ≡ t → variable_cell then v ≡ variable_cell cells v
      by_test true e =
          let lt : v < m.variables = grind (arith, nat_tests) in
          elim (freed_or_same segment cells v within) [ inl c ↦ absurd (subst IsBoundCell (older v lt ∙ freed_free segment cells v within (has_contained v segment c)) b) | inr k ↦ older v lt ∙ k ]
      by_test false e = let le : m.variables ≤ v = grind (arith, nat_tests) in absurd (subst IsBoundCell (new_free v le) b)

  pub free_since : (v : ℕ) → IsSince segment m.variables (length cells) v → variable_cell then v ≡ Free
  free_since v (inr h) = new_free v h.0
  free_since v (inl c) = by_test (nat_lt v m.variables) refl
    where
      by_test : (t : Bool) → nat_lt v m.variables ≡ t → variable_cell then v ≡ Free
      by_test true e = let lt : v < m.variables = grind (arith, nat_tests) in older v lt ∙ freed_free segment cells v within (has_contained v segment c)
      by_test false e = let le : m.variables ≤ v = grind (arith, nat_tests) in new_free v le

  pub bound_since : (v : ℕ) → variable_cell then v ≡ Free → IsBoundCell (variable_cell cells v) → IsSince segment m.variables (length cells) v
  bound_since v f b = by_test (nat_lt v m.variables) refl
    where
      has_cell : v < length cells
      has_cell = by (nat_lt v (length cells)) refl
        where
          by : (t : Bool) → nat_lt v (length cells) ≡ t → v < length cells
          by true e = grind (arith, nat_tests)
          by false e = let le : length cells ≤ v = grind (arith, nat_tests) in absurd (subst IsBoundCell (get_or-eq_default cells Free le) b)

      by_test : (t : Bool) → nat_lt v m.variables ≡ t → IsSince segment m.variables (length cells) v
      by_test true e =
          let lt : v < m.variables = grind (arith, nat_tests) in
          elim (freed_or_same segment cells v within) [ inl c ↦ inl c | inr k ↦ absurd (subst IsBoundCell (sym k ∙ (sym (older v lt) ∙ f)) b) ]
      by_test false e = inr (grind (arith, nat_tests), has_cell)

-- one more variable
with_behind : (c : BindingCell) (v : ℕ) (bs ds : Bindings) → with_binding c v (bs ++ ds) ≡ with_binding c v bs ++ ds
with_behind Free v bs ds = refl
with_behind (Var w) v bs ds = refl
with_behind (Int z) v bs ds = refl
with_behind (Atom a) v bs ds = refl
with_behind (Compound at base) v bs ds = refl

more_bindings : (cells : List BindingCell) (vs : List ℕ) (v : ℕ) → bindings_of cells (vs ++ v ∷ []) ≡ bindings_of cells vs ++ with_binding (variable_cell cells v) v []
more_bindings cells [] v = refl
more_bindings cells (u ∷ us) v = ap (with_binding (variable_cell cells u) u) (more_bindings cells us v) ∙ with_behind (variable_cell cells u) u (bindings_of cells us) (with_binding (variable_cell cells v) v [])

bound_with : (c : BindingCell) (v : ℕ) → IsBoundCell c → with_binding c v [] ≡ (v, c) ∷ []
bound_with Free v b = absurd b
bound_with (Var w) v b = refl
bound_with (Int z) v b = refl
bound_with (Atom a) v b = refl
bound_with (Compound at base) v b = refl

pub more_bound : (cells : List BindingCell) (vs : List ℕ) (v : ℕ) (c : BindingCell) → variable_cell cells v ≡ c → IsBoundCell c → bindings_of cells (vs ++ v ∷ []) ≡ bindings_of cells vs ++ (v, c) ∷ []
more_bound cells vs v c e b = more_bindings cells vs v ∙ ap (λ bs. bindings_of cells vs ++ bs) (ap (λ d. with_binding d v []) e ∙ bound_with c v b)

pub more_free : (cells : List BindingCell) (vs : List ℕ) (v : ℕ) → variable_cell cells v ≡ Free → bindings_of cells (vs ++ v ∷ []) ≡ bindings_of cells vs
more_free cells vs v e = more_bindings cells vs v ∙ (ap (λ c. bindings_of cells vs ++ with_binding c v []) e ∙ append-nil (bindings_of cells vs))

-- what was made since a mark
module _ (p : Parts) (k : IsConsistent p) (m : Mark) (old : IsConsistentAt p m) (w : IsWithin p m) where
  abbrev code : CodeView
  code = heap_text p.heap

  abbrev older_code : CodeView
  older_code = heap_text (cut_heap m.made p.heap)

  abbrev now : Substitution
  now = substitution_in code p.cells

  abbrev older_cells : List BindingCell
  older_cells = undone m p.trail p.cells

  abbrev earlier : Substitution
  earlier = substitution_in older_code older_cells

  pub keeps : Keeps older_code code
  keeps =
      let names = append-nil older_code.names in
      let places : older_code.places ++ drop m.made p.heap.made ≡ code.places = append_assoc p.heap.program.places (take m.made p.heap.made) (drop m.made p.heap.made) ∙ ap (λ ps. p.heap.program.places ++ ps) (take-append-drop m.made p.heap.made) in
      subst (Keeps older_code) (ap₂ (λ ns ps. (let c : CodeView = record { names = ns; places = ps } in c)) names places) (added_keeps older_code.names [] older_code.places (drop m.made p.heap.made) old.text)

  pub composed : (further : Substitution) → ((v : ℕ) → variable_cell older_cells v ≡ Free → value_of further v ≡ value_of now v) → (v : ℕ) → resolve further (value_of earlier v) ≡ value_of now v
  composed further f = by_values older_code older_cells earlier old.falling old.values old.represents (λ v. resolve further (value_of earlier v) ≡ value_of now v)
      (λ v e. ap (resolve further) (free_stands older_code earlier v older_cells old.represents e) ∙ f v e)
      (λ v b h.
      let same : variable_cell older_cells v ≡ variable_cell p.cells v = free_or_same m p.trail p.cells w.older.variables k.trail v b in
      let t = cell_term older_code (variable_cell older_cells v) in
      let kept : cell_term code (variable_cell p.cells v) ≡ t = ap (cell_term code) (sym same) ∙ (value_kept older_code code (length older_cells) (variable_cell older_cells v) keeps (has_value older_code older_cells earlier old.falling old.values old.represents v b)).1 in
      ap (resolve further) (bound_stands older_code earlier v older_cells old.represents b)
      ∙ (apply-apply (value_of further) (value_of earlier) t
      ∙ (agreed (λ u. resolve further (value_of earlier u)) (value_of now) t h
      ∙ sym (bound_stands code now v p.cells k.now.represents (subst IsBoundCell same b) ∙ ap (resolve now) kept))))

  found : (vs : List ℕ) (v : ℕ) → value_of (substitution_of (view_of p) (bindings_of p.cells vs)) v ≡ cond (has v vs) (value_of now v) (VarTerm v)
  unfolding has
  found [] v = refl
  found (u ∷ us) v = with_found (view_of p) (variable_cell p.cells u) u v (bindings_of p.cells us) (value_of now v) (has v us)
      (λ e q. free_stands code now v p.cells k.now.represents (ap (variable_cell p.cells) (sym q) ∙ e))
      (λ b q. sym (bound_stands code now u p.cells k.now.represents b) ∙ ap (value_of now) q) (found us v)

  pub made_since : (vs : List ℕ) → IsStrictlyIncreasing vs → ((v : ℕ) → IsSince (drop m.trail p.trail) m.variables (length p.cells) v → Contains vs v) → ((v : ℕ) → Contains vs v → IsSince (drop m.trail p.trail) m.variables (length p.cells) v)
      → AreMadeSince (moment_at p m) (view_of p) (bindings_of p.cells vs)
  made_since vs rise all others = record {
    later = let l = w.older.variables in omega (arith, l, length-take-le m.variables (freed (drop m.trail p.trail) p.cells) (omega (arith, l, length-freed (drop m.trail p.trail) p.cells)));
    rising = bindings_rise p.cells vs rise;
    free = each_of p.cells (λ b. value_of earlier b.0 ≡ VarTerm b.0) vs (λ v c b. free_stands older_code earlier v older_cells old.represents (free_since m p.trail p.cells w.older.variables k.trail v (others v c)));
    there = each_of p.cells (λ b. IsValueIn (view_of p) b.1) vs (λ v c b. has_value code p.cells now k.now.falling k.now.values k.now.represents v b);
    falling = each_of p.cells (λ b. IsFalling b.0 b.1) vs (λ v c b. k.now.falling v);
    made = λ v. sym (composed (substitution_of (view_of p) (bindings_of p.cells vs)) (λ u e. looked_up u e) v);
  }
    where
      looked_up : (u : ℕ) → variable_cell older_cells u ≡ Free → value_of (substitution_of (view_of p) (bindings_of p.cells vs)) u ≡ value_of now u
      looked_up u e = elim (free_or_bound (variable_cell p.cells u)) [
        | is_free f ↦ found vs u ∙ either (has u vs) (value_of now u) (VarTerm u) (free_stands code now u p.cells k.now.represents f)
        | is_bound_cell b ↦ found vs u ∙ ap (λ h. cond h (value_of now u) (VarTerm u)) (has_contained u vs (all u (bound_since m p.trail p.cells w.older.variables k.trail u e b)))
      ]

pub since_within : (trail : List ℕ) (kept below n v : ℕ) → Each (λ u. u < n) trail → IsSince (drop kept trail) below n v → v < n
since_within trail kept below n v h (inl c) = each_at (λ u. u < n) (drop kept trail) c.0 v (each-drop (λ u. u < n) kept trail h) c.1 (sym c.2)
since_within trail kept below n v h (inr k) = k.1

-- what comes after so many
pub taken_rest : (n : ℕ) (xs ys : List ℕ) → xs ≡ ys → take (length xs - n) (drop n xs) ≡ drop n ys
taken_rest n xs ys e = ap (λ zs. take (length zs - n) (drop n zs)) e ∙ (ap (λ k. take k (drop n ys)) (sym (length-drop n ys)) ∙ take-length (drop n ys))

-- as they were found
pub made_since_mark : (p : Parts) → IsConsistent p → (m : Mark) → IsConsistentAt p m → IsWithin p m → (bs : Bindings) → AreSinceMark m p.trail p.cells bs → AreMadeSince (moment_at p m) (view_of p) bs
made_since_mark p k m old w bs since = subst (AreMadeSince (moment_at p m) (view_of p)) (sym since.are) (made_since p k m old w since.variables since.rising since.all since.others)
