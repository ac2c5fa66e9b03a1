-- Marks at a floor, and later ones.
use Rattle.std.proofs.Common.{◌≡◌, ◌+◌, ◌-◌, ◌<◌, ◌≤◌, ℕ, zero, suc, List, [], ◌∷◌, length, get_or, map, take, replicate, refl, sym, ap, ◌∙◌, subst, arith}
use Rattle.std.proofs.lemmas.List.{length-replicate, take-append-le, take-replicate, append-nil}
use Rattle.std.proofs.Math.Seq.{take-append-add}
use Rattle.au_model.specs.Terms.Each.{Each}
use Rattle.cell_store.specs.HeapView.{HeapView}
use Rattle.cell_store.specs.StoreView.{IsConsistent, IsConsistentAt, IsOlderMoment, moment_at, moment_of, raised, view_of}
use Rattle.cell_store.specs.Undoing.{Parts, IsOlderMark, IsWithin, AreNested, mark_now, marks_over, undone}
use Rattle.cell_store.specs.declared.mark.Mark.{Mark}
use Rattle.cell_store.proofs.MadeBindingLemmas.{keeps}
use Rattle.cell_store.proofs.OlderBindingLemmas.{long}
use Rattle.cell_store.proofs.StoreLemmas.{parts, heap_at_now, cells_at_now, consistent_at_now, within_now}
use Rattle.binding_array.specs.declared.cell.BindingCell.{BindingCell}

pub kept_later : (f : Mark) (n count : ℕ) (later : List Mark) → n ≤ count → marks_over f n (take (count - n) later) ≡ take count (marks_over f n later)
kept_later f n count later le =
    let long : length (replicate n f) + (count - n) ≡ count = omega (arith, length-replicate n f, le) in
    sym (take-append-add (replicate n f) later (count - n)) ∙ ap (λ k. take k (marks_over f n later)) long

pub kept_at_floor : (f : Mark) (n count : ℕ) (later : List Mark) → count < n → marks_over f count [] ≡ take count (marks_over f n later)
kept_at_floor f n count later lt =
    append-nil (replicate count f)
    ∙ (sym (take-replicate count n f (omega (arith, lt)))
    ∙ sym (take-append-le count (replicate n f) later (omega (arith, length-replicate n f, lt))))

-- each of them at one mark
pub all_at : (m : Mark) (ms : List Mark) → marks_over m (length ms) [] ≡ map (λ k. m) ms
all_at m [] = refl
all_at m (k ∷ ms) = ap (λ js. m ∷ js) (all_at m ms)

-- a later one by its number among all
pub later_at : (f : Mark) (n i : ℕ) (later : List Mark) (d : Mark) → get_or (marks_over f n later) (n + i) d ≡ get_or later i d
later_at f zero i later d = let e : 0 + i ≡ i = omega arith in ap (λ k. get_or later k d) e
later_at f (suc n) i later d = let e : suc n + i ≡ suc (n + i) = omega arith in ap (λ k. get_or (marks_over f (suc n) later) k d) e ∙ later_at f n i later d

pub at_floor : (f : Mark) (n i : ℕ) (later : List Mark) (d : Mark) → i < n → get_or (marks_over f n later) i d ≡ f
at_floor f zero i later d lt = absurd (omega (arith, lt))
at_floor f (suc n) zero later d lt = refl
at_floor f (suc n) (suc i) later d lt = at_floor f n i later d (omega (arith, lt))

-- none has more variables than the floor where none is later
pub none_later : (f : Mark) (n : ℕ) (later : List Mark) → later ≡ [] → Each (λ m. m.variables ≤ f.variables) (marks_over f n later)
none_later f zero later e = subst (Each (λ m. m.variables ≤ f.variables)) (sym e) tt
none_later f (suc n) later e = (omega arith, none_later f n later e)

each_raised : (P : Mark → Type 0) (m : Mark) (js : List Mark) → P m → Each P (map (λ j. m) js)
each_raised P m [] h = tt
each_raised P m (j ∷ js) h = (h, each_raised P m js h)

nested_raised : (m : Mark) (js : List Mark) → AreNested (map (λ j. m) js)
nested_raised m [] = tt
nested_raised m (j ∷ js) = (each_raised (IsOlderMark m) m js (record { trail = omega arith; variables = omega arith; made = omega arith }), nested_raised m js)

-- the floor and all marks at how the store is
module _ (h : HeapView) (cs : List BindingCell) (t : List ℕ) (f : Mark) (ns : List Mark) (m : Mark) (k : IsConsistent (parts h cs t (f ∷ ns))) (is : m ≡ mark_now (parts h cs t (f ∷ ns))) where
  abbrev old : Parts
  old = parts h cs t (f ∷ ns)

  abbrev new : Parts
  new = parts h cs t (m ∷ map (λ j. m) ns)

  pub raised_parts : IsConsistent new
  raised_parts =
      let same : IsOlderMark m m = record { trail = omega arith; variables = omega arith; made = omega arith } in
      let at : IsConsistentAt new m = consistent_at_now h cs t f ns m k is in
      let own : IsWithin old m = within_now h cs t f ns m k is in
      let within : IsWithin new m = record { older = record { trail = own.older.trail; variables = own.older.variables; made = own.older.made }; there = own.there } in record {
        now = k.now;
        at_marks = (at, each_raised (IsConsistentAt new) m ns at);
        within = (within, each_raised (IsWithin new) m ns within);
        nested = (each_raised (IsOlderMark m) m ns same, nested_raised m ns);
        trail = k.trail;
        variables = k.variables;
        places = k.places;
        distinct = k.distinct;
      }

  moments : (js : List Mark) → map (moment_at new) (map (λ j. m) js) ≡ map (λ x. moment_of h cs) (map (moment_at old) js)
  moments [] = refl
  moments (j ∷ js) =
      let first : moment_at new m ≡ moment_of h cs = ap (λ g. moment_of g (undone m t cs)) (heap_at_now h cs t f ns m k is) ∙ ap (moment_of h) (cells_at_now h cs t f ns m k is) in
      ap (λ x. x ∷ map (moment_at new) (map (λ j. m) js)) first ∙ ap (λ xs. moment_of h cs ∷ xs) (moments js)

  pub raised_view : view_of new ≡ raised (view_of old)
  raised_view =
      let first : moment_at new m ≡ moment_of h cs = ap (λ g. moment_of g (undone m t cs)) (heap_at_now h cs t f ns m k is) ∙ ap (moment_of h) (cells_at_now h cs t f ns m k is) in
      let others = moments ns in cc

  older_moment : (j : Mark) → IsConsistentAt old j → IsWithin old j → IsOlderMoment (view_of old) (moment_at old j)
  older_moment j c w = record {
    keeps = keeps old k j c w;
    next = let l = long old k j c w in let o = w.older.variables in omega (arith, l, o);
  }

  pub older_moments : (js : List Mark) → Each (IsConsistentAt old) js → Each (IsWithin old) js → Each (IsOlderMoment (view_of old)) (map (moment_at old) js)
  older_moments [] c w = tt
  older_moments (j ∷ js) c w = (older_moment j c.0 w.0, older_moments js c.1 w.1)
