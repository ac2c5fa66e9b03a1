-- How the parts of a store go on fitting together, and what its view becomes.
use Rattle.std.proofs.Common.{append-nil, ◌≡◌, ℕ, suc, ◌+◌, ◌^◌, ◌<◌, ◌≤◌, List, [], ◌∷◌, ◌++◌, length, length-append, take, drop, slice_set, get_or, map, refl, sym, ap, ◌∙◌, subst, arith}
use Rattle.std.proofs.Math.Seq.{take-length}
use Rattle.std.proofs.lemmas.List.{length-set, take-append-le, take-map, map-append, length-take-le}
use Rattle.au_model.specs.Terms.Each.{Each}
use Rattle.au_model.specs.Terms.Substitutions.{Substitution}
use Rattle.au_model.proofs.EachLemmas.{each-append, each-more}
use Rattle.clause_compile.specs.AtomNumbers.{AreDistinct}
use Rattle.clause_compile.specs.Places.{CodeView, AreSound}
use Rattle.clause_compile.specs.declared.place.Place.{Place}
use Rattle.binding_array.specs.Represented.{variable_cell}
use Rattle.binding_array.specs.declared.cell.BindingCell.{BindingCell}
use Rattle.binding_array.specs.declared.cell.BindingCell.TheVariants.{Free}
use Rattle.cell_store.specs.HeapView.{HeapView, heap_text, cut_heap}
use Rattle.cell_store.specs.CellMeanings.{AreConsistent}
use Rattle.cell_store.specs.Undoing.{undone, Parts, IsOlderMark, AreNested, mark_now, IsWithin}
use Rattle.cell_store.specs.StoreView.{Moment, StoreView, moment_of, moment_at, view_of, view_over, over_floor, IsConsistentAt, IsConsistent, IsValidStore, new_store, with_numbers, with_mark, with_marks, taken_back, meaning, BindsFurther, CanBeBound}
use Rattle.cell_store.specs.declared.mark.Mark.{Mark}
use Rattle.cell_store.proofs.SubstitutionLemmas.{none_bound, none_consistent, consistent_grown, substitution_grown, is_new, is_below, final, is_free_cell, bound_consistent, bound_value}
use Rattle.clause_compile.proofs.CodeLemmas.{each_taken}
use Rattle.cell_store.proofs.UndoingLemmas.{undone_trailed, undone_younger, undone_grown, undone_now, undone_twice, take_within, length-undone, each-both, map-same, nested-append, nested-take, older_than, split_at, front_at, mapped_at}

abbrev pub parts : HeapView → List BindingCell → List ℕ → List Mark → Parts
parts h cells trail marks = record { heap = h; cells = cells; trail = trail; marks = marks }

abbrev with_made : HeapView → List Place → HeapView
with_made h ps = record { program = h.program; names = h.names; made = ps }

-- where marks see the same, all that is said of them stays
module _ (h : HeapView) (cs ds : List BindingCell) (t u : List ℕ) (ms ns : List Mark) (W : Mark → Type 0) (same : (m : Mark) → W m → undone m u ds ≡ undone m t cs) where
  pub still_consistent : (ks : List Mark) → Each W ks → Each (IsConsistentAt (parts h cs t ms)) ks → Each (IsConsistentAt (parts h ds u ns)) ks
  still_consistent ks w k = each-both W (IsConsistentAt (parts h cs t ms)) (IsConsistentAt (parts h ds u ns)) (λ m v a. subst (AreConsistent (heap_text (cut_heap m.made h))) (sym (same m v)) a) ks w k

  pub still_moments : (ks : List Mark) → Each W ks → map (moment_at (parts h ds u ns)) ks ≡ map (moment_at (parts h cs t ms)) ks
  still_moments ks w = map-same W (moment_at (parts h ds u ns)) (moment_at (parts h cs t ms)) (λ m v. ap (moment_of (cut_heap m.made h)) (same m v)) ks w

-- a new store
abbrev new_heap_view : CodeView → HeapView
new_heap_view program = record { program = program; names = []; made = [] }

pub new_heap : (program : CodeView) (h : HeapView) → h ≡ record { program = program; names = []; made = [] } → heap_text h ≡ program
new_heap program h e = ap heap_text e ∙ same_text (append-nil program.names) (append-nil program.places)
  where
    same_text : {ns ms : List (List ℕ)} {ps qs : List Place} → ns ≡ ms → ps ≡ qs → (let c : CodeView = record { names = ns; places = ps } in c) ≡ record { names = ms; places = qs }
    same_text a b = cc

-- the floor of a new store
abbrev pub first_mark : Mark
first_mark = record { trail = 0; variables = 0; made = 0 }

-- nothing is made or bound
pub new_parts : (program : CodeView) → AreSound (length program.names) program.places → length program.places < 2 ^ 32 → AreDistinct program.names → (h : HeapView) → h ≡ record { program = program; names = []; made = [] }
    → IsConsistent (parts h [] [] (first_mark ∷ []))
new_parts program text few apart h is = let e = new_heap program h is in record {
  now = subst (λ c. AreConsistent c []) (sym e) (none_consistent program text);
  at_marks = (subst (λ c. AreConsistent c []) (sym (new_heap program (cut_heap 0 h) (ap (cut_heap 0) is))) (none_consistent program text), tt);
  within = (record { older = record { trail = omega arith; variables = omega arith; made = omega arith }; there = tt }, tt);
  nested = (tt, tt);
  trail = tt;
  variables = omega arith;
  places = subst (λ (c : CodeView). length c.places < 2 ^ 32) (sym e) few;
  distinct = subst (λ (c : CodeView). AreDistinct c.names) (sym e) apart;
}

-- what the view says is valid
pub is_valid : (p : Parts) → IsConsistent p → IsValidStore (view_of p)
is_valid p k = record {
  distinct = k.distinct;
  new = λ n le. is_new (heap_text p.heap) p.cells n k.now le;
  below = λ n lt. is_below (heap_text p.heap) p.cells k.now n lt;
  final = λ n. final (heap_text p.heap) p.cells n k.now;
}

-- further numbers are taken
module _ (h : HeapView) (cs ds : List BindingCell) (t : List ℕ) (ms : List Mark) (k : IsConsistent (parts h cs t ms)) (same : (v : ℕ) → variable_cell ds v ≡ variable_cell cs v) (longer : length cs ≤ length ds) (few : length ds < 2 ^ 32) where
  seen : (m : Mark) → IsWithin (parts h cs t ms) m → undone m t ds ≡ undone m t cs
  seen m w = undone_grown m t cs ds same w.older.variables longer

  pub grown_parts : IsConsistent (parts h ds t ms)
  grown_parts = record {
    now = consistent_grown (heap_text h) cs ds same longer k.now;
    at_marks = still_consistent h cs ds t t ms ms (IsWithin (parts h cs t ms)) seen ms k.within k.at_marks;
    within = each-more (IsWithin (parts h cs t ms)) (IsWithin (parts h ds t ms)) (λ m w. record { older = record { trail = w.older.trail; variables = (let le = w.older.variables in omega arith); made = w.older.made }; there = w.there }) ms k.within;
    nested = k.nested;
    trail = each-more (λ v. v < length cs) (λ v. v < length ds) (λ v lt. omega arith) t k.trail;
    variables = few;
    places = k.places;
    distinct = k.distinct;
  }

  pub grown_view : (n : ℕ) → length ds ≡ length cs + n → view_of (parts h ds t ms) ≡ with_numbers n (view_of (parts h cs t ms))
  grown_view n e =
      let bound = substitution_grown (heap_text h) cs ds same longer k.now in
      let marks = still_moments h cs ds t t ms ms (IsWithin (parts h cs t ms)) seen ms k.within in cc

-- one more binding
module _ (h : HeapView) (cs : List BindingCell) (t : List ℕ) (ms : List Mark) (v : ℕ) (c : BindingCell) (k : IsConsistent (parts h cs t ms)) (b : CanBeBound (view_of (parts h cs t ms)) v c) where
  abbrev ds : List BindingCell
  ds = slice_set cs v c

  pub unbound_cell : variable_cell cs v ≡ Free
  unbound_cell = is_free_cell (heap_text h) cs k.now v b.free

  same_length : length ds ≡ length cs
  same_length = length-set cs v c

  within_still : (u : List ℕ) (m : Mark) → length t ≤ length u → (take m.trail u ≡ take m.trail t) → IsWithin (parts h cs t ms) m → IsWithin (parts h ds u ms) m
  within_still u m le e w = record {
    older = record {
      trail = (let a : m.trail ≤ length t = w.older.trail in let b : m.trail ≤ length u = omega arith in b);
      variables = (let a : m.variables ≤ length cs = w.older.variables in let b : m.variables ≤ length ds = omega (arith, same_length) in b);
      made = w.older.made;
    };
    there = subst (Each (λ x. x < m.variables)) (sym e) w.there;
  }

  abbrev Seen : Mark → Type 0
  Seen m = IsWithin (parts h cs t ms) m × (m.variables ≤ v)

  now : AreConsistent (heap_text h) ds
  now = bound_consistent (heap_text h) cs v c k.now b.there b.free b.value b.falling b.apart

  trail_still : Each (λ x. x < length ds) t
  trail_still = each-more (λ x. x < length cs) (λ x. x < length ds) (λ x lt. omega (arith, same_length)) t k.trail

  further : (u : List ℕ) → map (moment_at (parts h ds u ms)) ms ≡ map (moment_at (parts h cs t ms)) ms → BindsFurther (view_of (parts h cs t ms)) (view_of (parts h ds u ms)) ((v, meaning (view_of (parts h cs t ms)) c) ∷ [])
  further u e = record {
    bound = bound_value (heap_text h) cs v c k.now b.there b.free b.value b.falling b.apart;
    others = (let a = same_length in cc);
  }

  -- of a variable that was there at the newest mark
  trailed : (m : Mark) → IsWithin (parts h cs t ms) m → undone m (t ++ v ∷ []) ds ≡ undone m t cs
  trailed m w = undone_trailed m t cs v c w.older.trail unbound_cell

  pub trailed_parts : IsConsistent (parts h ds (t ++ v ∷ []) ms)
  trailed_parts = record {
    now = now;
    at_marks = still_consistent h cs ds t (t ++ v ∷ []) ms ms (IsWithin (parts h cs t ms)) trailed ms k.within k.at_marks;
    within = each-more (IsWithin (parts h cs t ms)) (IsWithin (parts h ds (t ++ v ∷ []) ms)) (λ m w. within_still (t ++ v ∷ []) m (omega (arith, length-append t (v ∷ []))) (take-append-le m.trail t (v ∷ []) w.older.trail) w) ms k.within;
    nested = k.nested;
    trail = each-append (λ x. x < length ds) t (v ∷ []) trail_still (omega (arith, same_length, b.there), tt);
    variables = omega (arith, same_length, k.variables);
    places = k.places;
    distinct = k.distinct;
  }

  pub trailed_view : BindsFurther (view_of (parts h cs t ms)) (view_of (parts h ds (t ++ v ∷ []) ms)) ((v, meaning (view_of (parts h cs t ms)) c) ∷ [])
  trailed_view = further (t ++ v ∷ []) (still_moments h cs ds t (t ++ v ∷ []) ms ms (IsWithin (parts h cs t ms)) trailed ms k.within)

  -- of a younger variable
  younger : (m : Mark) → Seen m → undone m t ds ≡ undone m t cs
  younger m s = undone_younger m t cs v c s.1

  all_seen : (n : ℕ) → n ≤ v → Each (λ m. m.variables ≤ n) ms → Each Seen ms
  all_seen n le e = each-both (IsWithin (parts h cs t ms)) (λ m. m.variables ≤ n) Seen (λ m w l. (w, omega arith)) ms k.within e

  pub younger_parts : (n : ℕ) → n ≤ v → Each (λ m. m.variables ≤ n) ms → IsConsistent (parts h ds t ms)
  younger_parts n le e = record {
    now = now;
    at_marks = still_consistent h cs ds t t ms ms Seen younger ms (all_seen n le e) k.at_marks;
    within = each-more (IsWithin (parts h cs t ms)) (IsWithin (parts h ds t ms)) (λ m w. within_still t m (omega arith) refl w) ms k.within;
    nested = k.nested;
    trail = trail_still;
    variables = omega (arith, same_length, k.variables);
    places = k.places;
    distinct = k.distinct;
  }

  pub younger_view : (n : ℕ) → n ≤ v → Each (λ m. m.variables ≤ n) ms → BindsFurther (view_of (parts h cs t ms)) (view_of (parts h ds t ms)) ((v, meaning (view_of (parts h cs t ms)) c) ∷ [])
  younger_view n le e = further t (still_moments h cs ds t t ms ms Seen younger ms (all_seen n le e))

-- how many variables there were at marks
pub marks_below : (p : Parts) (n : ℕ) (ms : List Mark) → Each (IsWithin p) ms → Each (λ m. m.next ≤ n) (map (moment_at p) ms) → Each (λ m. m.variables ≤ n) ms
marks_below p n [] w h = tt
marks_below p n (m ∷ ms) w h = (omega (arith, h.0, length-undone m p.trail p.cells w.0.older.variables), marks_below p n ms w.1 h.1)

pub moments_below : (p : Parts) (n : ℕ) (ms : List Mark) → Each (IsWithin p) ms → Each (λ m. m.variables ≤ n) ms → Each (λ m. m.next ≤ n) (map (moment_at p) ms)
moments_below p n [] w h = tt
moments_below p n (m ∷ ms) w h = (omega (arith, h.0, length-undone m p.trail p.cells w.0.older.variables), moments_below p n ms w.1 h.1)

-- a mark
module _ (h : HeapView) (cs : List BindingCell) (t : List ℕ) (f : Mark) (ns : List Mark) (m : Mark) (k : IsConsistent (parts h cs t (f ∷ ns))) (is : m ≡ mark_now (parts h cs t (f ∷ ns))) where
  abbrev ms : List Mark
  ms = f ∷ ns

  abbrev p : Parts
  p = parts h cs t ms

  abbrev q : Parts
  q = parts h cs t (ms ++ m ∷ [])

  trail_is : m.trail ≡ length t
  trail_is = ap (λ (n : Mark). n.trail) is

  variables_are : m.variables ≡ length cs
  variables_are = ap (λ (n : Mark). n.variables) is

  made_is : m.made ≡ length h.made
  made_is = ap (λ (n : Mark). n.made) is

  pub heap_at_now : cut_heap m.made h ≡ h
  heap_at_now = ap (with_made h) (ap (λ n. take n h.made) made_is ∙ take-length h.made)

  pub cells_at_now : undone m t cs ≡ cs
  cells_at_now = undone_now t cs m trail_is variables_are

  pub consistent_at_now : IsConsistentAt p m
  consistent_at_now = subst (λ g. AreConsistent (heap_text g) (undone m t cs)) (sym heap_at_now) (subst (AreConsistent (heap_text h)) (sym cells_at_now) k.now)

  pub within_now : IsWithin p m
  within_now = record {
    older = record { trail = omega (arith, trail_is); variables = omega (arith, variables_are); made = omega (arith, made_is) };
    there = subst (λ vs. Each (λ x. x < m.variables) vs) (sym (ap (λ n. take n t) trail_is ∙ take-length t)) (each-more (λ x. x < length cs) (λ x. x < m.variables) (λ x lt. omega (arith, variables_are)) t k.trail);
  }

  pub marked_parts : IsConsistent q
  marked_parts = record {
    now = k.now;
    at_marks = each-append (IsConsistentAt q) ms (m ∷ []) k.at_marks (consistent_at_now, tt);
    within = each-append (IsWithin q) ms (m ∷ []) (each-more (IsWithin p) (IsWithin q) (λ n w. record { older = record { trail = w.older.trail; variables = w.older.variables; made = w.older.made }; there = w.there }) ms k.within)
        (record { older = record { trail = within_now.older.trail; variables = within_now.older.variables; made = within_now.older.made }; there = within_now.there }, tt);
    nested = nested-append ms m k.nested (each-more (IsWithin p) (λ n. IsOlderMark n m) (λ n w. record { trail = omega (arith, trail_is, w.older.trail); variables = omega (arith, variables_are, w.older.variables); made = omega (arith, made_is, w.older.made) }) ms k.within);
    trail = k.trail;
    variables = k.variables;
    places = k.places;
    distinct = k.distinct;
  }

  pub marked_view : view_of q ≡ with_mark (view_of p)
  marked_view =
      let last : moment_at q m ≡ moment_of h cs = ap (λ g. moment_of g (undone m t cs)) heap_at_now ∙ ap (moment_of h) cells_at_now in
      let marks : map (moment_at q) (ns ++ m ∷ []) ≡ map (moment_at p) ns ++ moment_of h cs ∷ [] = map-append (moment_at q) ns (m ∷ []) ∙ ap (λ x. map (moment_at p) ns ++ x ∷ []) last in cc

  -- which becomes the floor where there is no other
  pub floored_parts : ns ≡ [] → IsConsistent (parts h cs t (m ∷ []))
  floored_parts none = let all : IsConsistent (parts h cs t (f ∷ m ∷ [])) = subst (λ js. IsConsistent (parts h cs t (f ∷ js ++ m ∷ []))) none marked_parts in record {
    now = k.now;
    at_marks = (all.at_marks.1.0, tt);
    within = (record { older = record { trail = all.within.1.0.older.trail; variables = all.within.1.0.older.variables; made = all.within.1.0.older.made }; there = all.within.1.0.there }, tt);
    nested = (tt, tt);
    trail = k.trail;
    variables = k.variables;
    places = k.places;
    distinct = k.distinct;
  }

  pub floored_view : ns ≡ [] → view_of (parts h cs t (m ∷ [])) ≡ over_floor (view_of p)
  floored_view none =
      let last : moment_at q m ≡ moment_of h cs = ap (λ g. moment_of g (undone m t cs)) heap_at_now ∙ ap (moment_of h) cells_at_now in
      let marks : map (moment_at p) ns ≡ [] = ap (map (moment_at p)) none in cc

pub none_marked : (f : Mark → Moment) (ms : List Mark) → map f ms ≡ [] → ms ≡ []
none_marked f [] e = refl
none_marked f (m ∷ ms) e = absurd (let l : length (map f (m ∷ ms)) ≡ 0 = ap length e in omega (arith, l))

-- the oldest marks alone
pub kept_parts : (h : HeapView) (cs : List BindingCell) (t : List ℕ) (ms : List Mark) (n : ℕ) → IsConsistent (parts h cs t ms) → IsConsistent (parts h cs t (take n ms))
kept_parts h cs t ms n k = record {
  now = k.now;
  at_marks = each_taken (IsConsistentAt (parts h cs t (take n ms))) n ms k.at_marks;
  within = each_taken (IsWithin (parts h cs t (take n ms))) n ms (each-more (IsWithin (parts h cs t ms)) (IsWithin (parts h cs t (take n ms))) (λ m w. record { older = record { trail = w.older.trail; variables = w.older.variables; made = w.older.made }; there = w.there }) ms k.within);
  nested = nested-take n ms k.nested;
  trail = k.trail;
  variables = k.variables;
  places = k.places;
  distinct = k.distinct;
}

pub kept_view : (h : HeapView) (cs : List BindingCell) (t : List ℕ) (f : Mark) (ms : List Mark) (n : ℕ) → view_of (parts h cs t (f ∷ take n ms)) ≡ with_marks n (view_of (parts h cs t (f ∷ ms)))
kept_view h cs t f ms n =
    let e = take-map (moment_at (parts h cs t (f ∷ ms))) n ms in
    let marks : map (moment_at (parts h cs t (f ∷ take n ms))) (take n ms) ≡ take n (map (moment_at (parts h cs t (f ∷ ms))) ms) = sym e in cc

-- taken back to a mark
module _ (h : HeapView) (cs : List BindingCell) (t : List ℕ) (before : List Mark) (m : Mark) (after : List Mark) (k : IsConsistent (parts h cs t (before ++ m ∷ after))) where
  abbrev old : Parts
  old = parts h cs t (before ++ m ∷ after)

  abbrev kept : List Mark
  kept = before ++ m ∷ []

  abbrev back : Parts
  back = parts (cut_heap m.made h) (undone m t cs) (take m.trail t) kept

  front : (P : Mark → Type 0) (ns : List Mark) → Each P (ns ++ m ∷ after) → Each P (ns ++ m ∷ [])
  front P [] e = (e.0, tt)
  front P (n ∷ ns) e = (e.0, front P ns e.1)

  at : (P : Mark → Type 0) (ns : List Mark) → Each P (ns ++ m ∷ after) → P m
  at P [] e = e.0
  at P (n ∷ ns) e = at P ns e.1

  own : IsWithin old m
  own = at (IsWithin old) before k.within

  older : Each (λ n. IsOlderMark n m) kept
  older = older_than before m after k.nested

  heaps : (n : Mark) → IsOlderMark n m → cut_heap n.made (cut_heap m.made h) ≡ cut_heap n.made h
  heaps n o = ap (with_made h) (take_within n.made m.made h.made o.made)

  moments : (n : Mark) → IsOlderMark n m → moment_at back n ≡ moment_at old n
  moments n o = ap (λ g. moment_of g (undone n (take m.trail t) (undone m t cs))) (heaps n o) ∙ ap (moment_of (cut_heap n.made h)) (undone_twice n m t cs o)

  consistent_back : (n : Mark) → IsOlderMark n m → IsConsistentAt old n → IsConsistentAt back n
  consistent_back n o a = subst (λ g. AreConsistent (heap_text g) (undone n (take m.trail t) (undone m t cs))) (sym (heaps n o)) (subst (AreConsistent (heap_text (cut_heap n.made h))) (sym (undone_twice n m t cs o)) a)

  within_back : (n : Mark) → IsOlderMark n m → IsWithin old n → IsWithin back n
  within_back n o w = record {
    older = record {
      trail = omega (arith, o.trail, length-take-le m.trail t own.older.trail);
      variables = omega (arith, o.variables, length-undone m t cs own.older.variables);
      made = omega (arith, o.made, length-take-le m.made h.made own.older.made);
    };
    there = subst (Each (λ x. x < n.variables)) (sym (take_within n.trail m.trail t o.trail)) w.there;
  }

  pub back_parts : IsConsistent back
  back_parts = record {
    now = at (IsConsistentAt old) before k.at_marks;
    at_marks = each-both (λ n. IsOlderMark n m) (IsConsistentAt old) (IsConsistentAt back) consistent_back kept older (front (IsConsistentAt old) before k.at_marks);
    within = each-both (λ n. IsOlderMark n m) (IsWithin old) (IsWithin back) within_back kept older (front (IsWithin old) before k.within);
    nested = nested_front before k.nested;
    trail = each-more (λ x. x < m.variables) (λ x. x < length (undone m t cs)) (λ x lt. omega (arith, length-undone m t cs own.older.variables)) (take m.trail t) own.there;
    variables = omega (arith, length-undone m t cs own.older.variables, own.older.variables, k.variables);
    places = omega (arith, length-append h.program.places (take m.made h.made), length-append h.program.places h.made, length-take-le m.made h.made own.older.made, own.older.made, k.places);
    distinct = k.distinct;
  }
    where
      nested_front : (ns : List Mark) → AreNested (ns ++ m ∷ after) → AreNested (ns ++ m ∷ [])
      nested_front [] e = (tt, tt)
      nested_front (n ∷ ns) e = (front (IsOlderMark n) ns e.0, nested_front ns e.1)

  pub back_view : view_of back ≡ taken_back (moment_at old m) (view_over h (moment_of h cs) (map (moment_at old) kept))
  back_view = let marks : map (moment_at back) kept ≡ map (moment_at old) kept = map-same (λ n. IsOlderMark n m) (moment_at back) (moment_at old) moments kept older in cc

pub new_view : (program : CodeView) (h : HeapView) (cs : List BindingCell) (t : List ℕ) (ms : List Mark) → h ≡ record { program = program; names = []; made = [] } → cs ≡ [] → t ≡ [] → ms ≡ []
    → view_of (parts h cs t (first_mark ∷ ms)) ≡ new_store program
new_view program h cs t ms e f g i =
    ap (λ ns. view_of (parts h cs t (first_mark ∷ ns))) i ∙ (ap (λ u. view_of (parts h cs u (first_mark ∷ []))) g ∙ (ap (λ ds. view_of (parts h ds [] (first_mark ∷ []))) f
    ∙ (ap (λ k. view_of (parts k [] [] (first_mark ∷ []))) e ∙ ap (λ s. with_bound s) (none_bound (heap_text (new_heap_view program))))))
  where
    with_bound : Substitution → StoreView
    with_bound s = let m : Moment = record { made = []; bound = s; next = 0 } in record { program = program; names = []; now = m; floor = m; marks = [] }

-- taken back to the mark at a place
module _ (h : HeapView) (cs : List BindingCell) (t : List ℕ) (ms : List Mark) (i : ℕ) (m : Mark) (g : HeapView) (ds : List BindingCell) (u : List ℕ) (ns : List Mark) (k : IsConsistent (parts h cs t ms)) (within : i < length ms) (at : m ≡ get_or ms i m) (heap : g ≡ cut_heap m.made h)
    (cells : ds ≡ undone m t cs) (trail : u ≡ take m.trail t) (marks : ns ≡ take (i + 1) ms) where
  split : ms ≡ take i ms ++ m ∷ drop (i + 1) ms
  split = split_at ms i m within at

  whole : IsConsistent (parts h cs t (take i ms ++ m ∷ drop (i + 1) ms))
  whole = subst (λ ks. IsConsistent (parts h cs t ks)) split k

  front_is : take (i + 1) ms ≡ take i ms ++ m ∷ []
  front_is = front_at ms i m within at

  same_parts : parts g ds u ns ≡ parts (cut_heap m.made h) (undone m t cs) (take m.trail t) (take i ms ++ m ∷ [])
  same_parts = let e = marks ∙ front_is in cc

  pub undone_parts : IsConsistent (parts g ds u ns)
  undone_parts = subst IsConsistent (sym same_parts) (back_parts h cs t (take i ms) m (drop (i + 1) ms) whole)

  pub undone_at : view_of (parts g ds u ns) ≡ taken_back (moment_at (parts h cs t ms) m) (view_over h (moment_of h cs) (take (i + 1) (map (moment_at (parts h cs t ms)) ms)))
  undone_at =
      let front : map (moment_at (parts h cs t ms)) (take i ms ++ m ∷ []) ≡ take (i + 1) (map (moment_at (parts h cs t ms)) ms) = ap (map (moment_at (parts h cs t ms))) (sym front_is) ∙ sym (take-map (moment_at (parts h cs t ms)) (i + 1) ms) in
      ap view_of same_parts ∙ (back_view h cs t (take i ms) m (drop (i + 1) ms) whole ∙ ap (λ xs. taken_back (moment_at (parts h cs t ms) m) (view_over h (moment_of h cs) xs)) front)

-- the floor stays
module _ (h : HeapView) (cs : List BindingCell) (t : List ℕ) (f : Mark) (ms : List Mark) (i : ℕ) (m : Mark) (g : HeapView) (ds : List BindingCell) (u : List ℕ) (ns : List Mark) (k : IsConsistent (parts h cs t (f ∷ ms))) (within : i < length ms) (at : m ≡ get_or ms i m) (heap : g ≡ cut_heap m.made h)
    (cells : ds ≡ undone m t cs) (trail : u ≡ take m.trail t) (marks : ns ≡ take (i + 1) ms) where
  one_more : suc i + 1 ≡ suc (i + 1)
  one_more = omega arith

  in_all : suc i < length (f ∷ ms)
  in_all = omega (arith, within)

  all : f ∷ ns ≡ take (suc i + 1) (f ∷ ms)
  all = rw one_more (ap (λ js. f ∷ js) marks)

  pub over_parts : IsConsistent (parts g ds u (f ∷ ns))
  over_parts = undone_parts h cs t (f ∷ ms) (suc i) m g ds u (f ∷ ns) k in_all at heap cells trail all

  pub undone_view : (before after : List Moment) (moment : Moment) → map (moment_at (parts h cs t (f ∷ ms))) ms ≡ before ++ moment ∷ after → i ≡ length before
      → view_of (parts g ds u (f ∷ ns)) ≡ taken_back moment (with_marks (i + 1) (view_of (parts h cs t (f ∷ ms))))
  undone_view before after moment e l =
      let p = parts h cs t (f ∷ ms) in
      let own : moment ≡ moment_at p m = mapped_at (moment_at p) ms i m before after moment within at e l in
      undone_at h cs t (f ∷ ms) (suc i) m g ds u (f ∷ ns) k in_all at heap cells trail all
      ∙ (ap (λ n. taken_back (moment_at p m) (view_over h (moment_of h cs) (take n (map (moment_at p) (f ∷ ms))))) one_more
      ∙ ap (λ x. taken_back x (with_marks (i + 1) (view_of p))) (sym own))
