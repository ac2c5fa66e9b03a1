-- Terms that are made while a store goes on.
use Rattle.std.proofs.Common.{append-nil, ◌≡◌, ℕ, ◌≤◌, List, [], ◌++◌, length, length-append, take, drop, get_or, map, refl, sym, ap, ap₂, ◌∙◌, subst, arith}
use Rattle.std.proofs.lemmas.List.{take-append-le}
use Rattle.au_model.specs.Terms.Each.{Each}
use Rattle.au_model.proofs.EachLemmas.{each-drop, each-map, each-more}
use Rattle.clause_compile.specs.Places.{CodeView, AreSound, Keeps}
use Rattle.clause_compile.specs.declared.place.Place.{Place}
use Rattle.clause_compile.proofs.PlaceMeaningLemmas.{added_keeps}
use Rattle.clause_compile.proofs.CodeLemmas.{names_sound}
use Rattle.binding_array.specs.declared.cell.BindingCell.{BindingCell}
use Rattle.cell_store.specs.HeapView.{HeapView, heap_text, cut_heap, IsSoundHeap, GrowsHeap}
use Rattle.cell_store.specs.Undoing.{undone, Parts, IsWithin}
use Rattle.cell_store.specs.StoreView.{Moment, nothing_bound, moment_at, view_of, IsConsistentAt, IsConsistent, AddsText, text_at}
use Rattle.cell_store.specs.declared.mark.Mark.{Mark}
use Rattle.cell_store.proofs.SubstitutionLemmas.{value_kept, substitution_kept, consistent_kept}
use Rattle.cell_store.proofs.UndoingLemmas.{each-both, map-same}
use Rattle.cell_store.proofs.HeapGrowthLemmas.{heap_of, grown_text, grown_keeps}
use Rattle.cell_store.proofs.StoreLemmas.{parts}

-- terms are made
module _ (h g : HeapView) (cs : List BindingCell) (t : List ℕ) (ms : List Mark) (k : IsConsistent (parts h cs t ms)) (sound : IsSoundHeap h) (grown : GrowsHeap h g) where
  abbrev before : Parts
  before = parts h cs t ms

  abbrev now : Parts
  now = parts g cs t ms

  -- a heap that is cut to what was there at a mark has more names alone
  cut_keeps : (n : ℕ) → n ≤ length h.made → AreSound (length (heap_text (cut_heap n h)).names) (heap_text (cut_heap n h)).places → Keeps (heap_text (cut_heap n h)) (heap_text (cut_heap n g)) × AreSound (length (heap_text (cut_heap n g)).names) (heap_text (cut_heap n g)).places
  cut_keeps n le s =
      let made : take n g.made ≡ take n h.made = ap (λ (u : HeapView). take n u.made) grown.is ∙ take-append-le n h.made grown.places le in
      let program : g.program ≡ h.program = ap (λ (u : HeapView). u.program) grown.is in
      let names : g.names ≡ h.names ++ grown.names = ap (λ (u : HeapView). u.names) grown.is in
      let same : cut_heap n g ≡ heap_of h.program (h.names ++ grown.names) (take n h.made ++ []) = ap (λ (u : HeapView). heap_of u.program u.names (take n u.made)) grown.is ∙ ap (heap_of h.program (h.names ++ grown.names)) (take-append-le n h.made grown.places le ∙ sym (append-nil (take n h.made))) in
      let text : heap_text (cut_heap n g) ≡ record { names = (heap_text (cut_heap n h)).names ++ grown.names; places = (heap_text (cut_heap n h)).places ++ [] } = ap heap_text same ∙ grown_text (cut_heap n h) grown.names [] in (
        subst (Keeps (heap_text (cut_heap n h))) (sym text) (added_keeps (heap_text (cut_heap n h)).names grown.names (heap_text (cut_heap n h)).places [] s),
        subst (λ (c : CodeView). AreSound (length c.names) c.places) (sym text)
            (subst (AreSound (length ((heap_text (cut_heap n h)).names ++ grown.names))) (sym (append-nil (heap_text (cut_heap n h)).places))
            (names_sound (length (heap_text (cut_heap n h)).names) (length ((heap_text (cut_heap n h)).names ++ grown.names)) (heap_text (cut_heap n h)).places s (omega (arith, length-append (heap_text (cut_heap n h)).names grown.names)))),
      )

  keeps : Keeps (heap_text h) (heap_text g)
  keeps = grown_keeps h g sound grown

  made_longer : length h.made ≤ length g.made
  made_longer = omega (arith, ap (λ (u : HeapView). length u.made) grown.is, length-append h.made grown.places)

  abbrev Seen : Mark → Type 0
  Seen m = IsWithin before m × IsConsistentAt before m

  seen : Each Seen ms
  seen = each-both (IsWithin before) (IsConsistentAt before) Seen (λ m w a. (w, a)) ms k.within k.at_marks

  at_mark : (m : Mark) → Seen m → IsConsistentAt now m
  at_mark m s =
      let c = cut_keeps m.made s.0.older.made s.1.text in
      consistent_kept (heap_text (cut_heap m.made h)) (heap_text (cut_heap m.made g)) (undone m t cs) c.0 c.1 s.1

  moment : (m : Mark) → Seen m → moment_at now m ≡ moment_at before m
  moment m s =
      let c = cut_keeps m.made s.0.older.made s.1.text in
      let bound = substitution_kept (heap_text (cut_heap m.made h)) (heap_text (cut_heap m.made g)) (undone m t cs) c.0 s.1.values in
      let made : take m.made g.made ≡ take m.made h.made = ap (λ (u : HeapView). take m.made u.made) grown.is ∙ take-append-le m.made h.made grown.places s.0.older.made in
      ap₂ (λ ps b. (let x : Moment = record { made = ps; bound = b; next = length (undone m t cs) } in x)) made bound

  pub added_parts : IsConsistent now
  added_parts = record {
    now = consistent_kept (heap_text h) (heap_text g) cs keeps grown.sound.text k.now;
    at_marks = each-both Seen Seen (IsConsistentAt now) (λ m s _. at_mark m s) ms seen seen;
    within = each-more (IsWithin before) (IsWithin now) (λ m w. record { older = record { trail = w.older.trail; variables = w.older.variables; made = (let a : m.made ≤ length h.made = w.older.made in let b : m.made ≤ length g.made = omega (arith, made_longer) in b) }; there = w.there }) ms k.within;
    nested = k.nested;
    trail = k.trail;
    variables = k.variables;
    places = grown.sound.small;
    distinct = grown.sound.distinct;
  }

  kept_at : (m : Mark) → Seen m → Keeps (text_at (view_of before) (moment_at before m)) (text_at (view_of now) (moment_at before m))
  kept_at m s =
      let c = cut_keeps m.made s.0.older.made s.1.text in
      let made : take m.made g.made ≡ take m.made h.made = ap (λ (u : HeapView). take m.made u.made) grown.is ∙ take-append-le m.made h.made grown.places s.0.older.made in
      subst (λ (ps : List Place). Keeps (heap_text (cut_heap m.made h)) (record { names = g.program.names ++ g.names; places = g.program.places ++ ps })) made c.0

  abbrev Kept : Moment → Type 0
  Kept x = Keeps (text_at (view_of before) x) (text_at (view_of now) x)

  same_moments : map (moment_at now) ms ≡ map (moment_at before) ms
  same_moments = map-same Seen (moment_at now) (moment_at before) moment ms seen

  pub added_view : AddsText (view_of before) (view_of now)
  added_view = record {
    keeps = keeps;
    values = λ c v. value_kept (heap_text h) (heap_text g) (length cs) c keeps v;
    program = ap (λ (u : HeapView). u.program) grown.is;
    bound = substitution_kept (heap_text h) (heap_text g) cs keeps k.now.values;
    next = refl;
    floor = ap (λ xs. get_or xs 0 nothing_bound) same_moments;
    marks = ap (drop 1) same_moments;
    at_marks = each-drop Kept 1 (map (moment_at before) ms) (each-map Seen Kept (moment_at before) kept_at ms seen);
  }

pub sound_heap : (p : Parts) → IsConsistent p → IsSoundHeap p.heap
sound_heap p k = record { text = k.now.text; distinct = k.distinct; small = k.places }
