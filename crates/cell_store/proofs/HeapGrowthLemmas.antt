-- Names and terms added to the heap.
use Rattle.std.proofs.Common.{◌≡◌, inl, inr, ℕ, suc, ◌+◌, ◌-◌, ◌<◌, ◌≤◌, ◌^◌, Bool, true, false, nat_lt, List, [], ◌∷◌, ◌++◌, length, length-append, take, drop, reverse, Some, None, refl, sym, ap, ap₂, ◌∙◌, subst, arith, append-nil, append_assoc}
use Rattle.std.proofs.lemmas.Bool.Decides.{nat_tests}
use Rattle.std.proofs.lemmas.List.{length-take-le, length-reverse}
use Rattle.au_term.specs.PrefixOrder.{arity}
use Rattle.au_term.specs.Shifted.{shifted_cell}
use Rattle.au_term.specs.declared.cell.Cell.{Cell}
use Rattle.au_term.specs.declared.cell.Cell.TheVariants.{Var as VarCell, Int as IntCell, Atom as AtomCell, Functor as FunctorCell}
use Rattle.clause_compile.specs.AtomNumbers.{name_at, number_of_name, AreDistinct, IsNumbered}
use Rattle.clause_compile.specs.Places.{CodeView, AreSound, IsArity, Keeps, ArePlacesOf, AddsCell, compound_place}
use Rattle.clause_compile.specs.declared.place.Place.{Place}
use Rattle.clause_compile.specs.declared.place.Place.TheVariants.{Functor}
use Rattle.clause_compile.proofs.AtomNumberLemmas.{stands_there, stands_nowhere, name_at-front}
use Rattle.clause_compile.proofs.PlaceMeaningLemmas.{added_keeps}
use Rattle.clause_compile.proofs.CodeLemmas.{names_sound, still_sound, compound_added}
use Rattle.cell_store.specs.HeapView.{HeapView, heap_text, IsSoundHeap, GrowsHeap, IsNumberedIn}

abbrev pub heap_of : CodeView → List (List ℕ) → List Place → HeapView
heap_of program names made = record { program = program; names = names; made = made }

abbrev code_of : List (List ℕ) → List Place → CodeView
code_of names places = record { names = names; places = places }

pub grows_same : (h : HeapView) → IsSoundHeap h → GrowsHeap h h
grows_same h s = record { names = []; places = []; is = sym (ap₂ (heap_of h.program) (append-nil h.names) (append-nil h.made)); sound = s }

pub grows_twice : (a b c : HeapView) → GrowsHeap a b → GrowsHeap b c → GrowsHeap a c
grows_twice a b c g k = record {
  names = g.names ++ k.names;
  places = g.places ++ k.places;
  is = k.is ∙ (ap (λ (h : HeapView). heap_of h.program (h.names ++ k.names) (h.made ++ k.places)) g.is ∙ ap₂ (heap_of a.program) (append_assoc a.names g.names k.names) (append_assoc a.made g.places k.places));
  sound = k.sound;
}

-- the text that was there is there
pub grown_text : (h : HeapView) (names : List (List ℕ)) (places : List Place) → heap_text (heap_of h.program (h.names ++ names) (h.made ++ places)) ≡ code_of ((heap_text h).names ++ names) ((heap_text h).places ++ places)
grown_text h names places = ap₂ code_of (sym (append_assoc h.program.names h.names names)) (sym (append_assoc h.program.places h.made places))

pub grown_keeps : (a b : HeapView) → IsSoundHeap a → GrowsHeap a b → Keeps (heap_text a) (heap_text b)
grown_keeps a b s g = subst (Keeps (heap_text a)) (sym (ap heap_text g.is ∙ grown_text a g.names g.places)) (added_keeps (heap_text a).names g.names (heap_text a).places g.places s.text)

-- a number that a name has
pub there_number : (h : HeapView) (a : List ℕ) (n : ℕ) → n < length (heap_text h).names → name_at (heap_text h).names n ≡ a → IsNumberedIn h h a n
there_number h a n within named = record {
  numbered = record { more = []; is = sym (append-nil (heap_text h).names); few = inl refl; within = within; named = named };
  places = refl;
}

-- a name of the program
pub known_number : (h : HeapView) (a : List ℕ) (n : ℕ) → number_of_name h.program.names a ≡ Some n → IsNumberedIn h h a n
known_number h a n e =
    let there = stands_there h.program.names a n e in
    record {
      numbered = record {
        more = [];
        is = sym (append-nil (heap_text h).names);
        few = inl refl;
        within = omega (arith, there.0, length-append h.program.names h.names);
        named = name_at-front h.program.names h.names n there.0 ∙ there.1;
      };
      places = refl;
    }

name_at-behind : (ps ns : List (List ℕ)) (k : ℕ) → name_at (ps ++ ns) (length ps + k) ≡ name_at ns k
name_at-behind [] ns k = let e : length {A = List ℕ} [] + k ≡ k = omega arith in ap (name_at ns) e
name_at-behind (p ∷ ps) ns k = let e : length (p ∷ ps) + k ≡ suc (length ps + k) = omega arith in ap (name_at (p ∷ ps ++ ns)) e ∙ name_at-behind ps ns k

-- one name more
distinct_more : (ns : List (List ℕ)) (a : List ℕ) → AreDistinct ns → ((i : ℕ) → i < length ns → name_at ns i ≡ a → ⊥) → AreDistinct (ns ++ a ∷ [])
distinct_more ns a d new i j li lj e = by_place (nat_lt i (length ns)) (nat_lt j (length ns)) refl refl
  where
    last : (k : ℕ) → k ≡ length ns → name_at (ns ++ a ∷ []) k ≡ a
    last k q = let z : k ≡ length ns + 0 = omega arith in ap (name_at (ns ++ a ∷ [])) z ∙ name_at-behind ns (a ∷ []) 0

    by_place : (b c : Bool) → nat_lt i (length ns) ≡ b → nat_lt j (length ns) ≡ c → i ≡ j
    by_place true true p q =
        let l : i < length ns = grind (arith, nat_tests) in
        let m : j < length ns = grind (arith, nat_tests) in
        d i j l m (sym (name_at-front ns (a ∷ []) i l) ∙ (e ∙ name_at-front ns (a ∷ []) j m))
    by_place true false p q =
        let l : i < length ns = grind (arith, nat_tests) in
        let m : length ns ≤ j = grind (arith, nat_tests) in
        absurd (new i l (sym (name_at-front ns (a ∷ []) i l) ∙ (e ∙ last j (omega (arith, m, lj, length-append ns (a ∷ []))))))
    by_place false true p q =
        let l : length ns ≤ i = grind (arith, nat_tests) in
        let m : j < length ns = grind (arith, nat_tests) in
        absurd (new j m (sym (name_at-front ns (a ∷ []) j m) ∙ (sym e ∙ last i (omega (arith, l, li, length-append ns (a ∷ []))))))
    by_place false false p q =
        let l : length ns ≤ i = grind (arith, nat_tests) in
        let m : length ns ≤ j = grind (arith, nat_tests) in
        omega (arith, l, m, li, lj, length-append ns (a ∷ []))

-- a name that the program has not
module _ (h : HeapView) (own : List (List ℕ)) (a : List ℕ) (k : ℕ) (s : IsSoundHeap h) (missing : number_of_name h.program.names a ≡ None) (n : IsNumbered h.names own a k) (apart : AreDistinct own) where
  abbrev now : HeapView
  now = heap_of h.program own h.made

  names_now : (heap_text now).names ≡ (heap_text h).names ++ n.more
  names_now = ap (λ ns. h.program.names ++ ns) n.is ∙ sym (append_assoc h.program.names h.names n.more)

  not_own : (i : ℕ) → own ≡ h.names ++ a ∷ [] → i < length h.names → name_at h.names i ≡ a → ⊥
  not_own i e l q =
      let z : length h.names ≡ length h.names + 0 = omega arith in
      let same : i ≡ length h.names = apart i (length h.names) (omega (arith, l, ap length e, length-append h.names (a ∷ []))) (omega (arith, ap length e, length-append h.names (a ∷ [])))
      (ap (λ ns. name_at ns i) e ∙ (name_at-front h.names (a ∷ []) i l ∙ (q ∙ sym (ap (λ ns. name_at ns (length h.names)) e ∙ (ap (name_at (h.names ++ a ∷ [])) z ∙ name_at-behind h.names (a ∷ []) 0))))) in
      omega (arith, same, l)

  new_name : own ≡ h.names ++ a ∷ [] → (i : ℕ) → i < length (heap_text h).names → name_at (heap_text h).names i ≡ a → ⊥
  new_name e i l q = by_place (nat_lt i (length h.program.names)) refl
    where
      by_place : (b : Bool) → nat_lt i (length h.program.names) ≡ b → ⊥
      by_place true p = let m : i < length h.program.names = grind (arith, nat_tests) in stands_nowhere h.program.names a i missing m (sym (name_at-front h.program.names h.names i m) ∙ q)
      by_place false p =
          let m : length h.program.names ≤ i = grind (arith, nat_tests) in
          let j = i - length h.program.names in
          let is : i ≡ length h.program.names + j = omega arith in
          not_own j e (omega (arith, l, length-append h.program.names h.names)) (sym (name_at-behind h.program.names h.names j) ∙ (ap (name_at (heap_text h).names) (sym is) ∙ q))

  distinct_now : AreDistinct (heap_text now).names
  distinct_now = elim n.few [
    | inl e ↦ subst AreDistinct (sym (names_now ∙ (ap (λ ms. (heap_text h).names ++ ms) e ∙ append-nil (heap_text h).names))) s.distinct
    | inr e ↦ subst AreDistinct (sym (names_now ∙ ap (λ ms. (heap_text h).names ++ ms) e)) (distinct_more (heap_text h).names a s.distinct (new_name (n.is ∙ ap (λ ms. h.names ++ ms) e)))
  ]

  pub new_number : IsNumberedIn h now a (length h.program.names + k)
  new_number = record {
    numbered = record {
      more = n.more;
      is = names_now;
      few = n.few;
      within = omega (arith, n.within, length-append h.program.names own);
      named = name_at-behind h.program.names own k ∙ n.named;
    };
    places = refl;
  }

  pub new_grows : GrowsHeap h now
  new_grows = record {
    names = n.more;
    places = [];
    is = ap₂ (heap_of h.program) n.is (sym (append-nil h.made));
    sound = record {
      text = names_sound (length (heap_text h).names) (length (heap_text now).names) (heap_text h).places s.text (omega (arith, ap length names_now, length-append (heap_text h).names n.more));
      distinct = distinct_now;
      small = s.small;
    };
  }

-- a compound
module _ (h named now : HeapView) (name : List ℕ) (f n at : ℕ) (before left after : List Place) (s : IsSoundHeap h) (g : GrowsHeap h named) (k : IsNumberedIn h named name f) (arity : IsArity n) (stand : ArePlacesOf (heap_text h) before) (enough : n ≤ length before)
    (now_is : now ≡ heap_of named.program named.names (named.made ++ Functor f n ∷ take n (reverse before))) where
  abbrev block : List Place
  block = Functor f n ∷ take n (reverse before)

  places_now : (heap_text now).places ≡ (heap_text h).places ++ block
  places_now = ap (λ (u : HeapView). (heap_text u).places) now_is ∙ (sym (append_assoc named.program.places named.made block) ∙ ap (λ ps. ps ++ block) k.places)

  names_same : (heap_text now).names ≡ (heap_text named).names
  names_same = ap (λ (u : HeapView). (heap_text u).names) now_is

  whole : heap_text now ≡ code_of (heap_text named).names (heap_text now).places
  whole = ap (λ ns. code_of ns (heap_text now).places) names_same

  pub compound_adds : reverse left ≡ drop n (reverse before) → after ≡ left ++ compound_place at (take n (reverse before)) ∷ [] → at ≡ length (heap_text h).places → AddsCell (heap_text h) (heap_text now) (FunctorCell name n) before after
  compound_adds r a e =
      compound_added (heap_text h).names (heap_text named).names (heap_text h).places (heap_text h) name f n before refl s.text k.numbered stand enough (heap_text now) (heap_text now).places left after whole places_now r (a ∙ ap (λ i. left ++ compound_place i (take n (reverse before)) ∷ []) e)

  few_places : length (heap_text h).places + suc n < 2 ^ 32 → length (heap_text now).places < 2 ^ 32
  few_places room = omega (arith, room, ap length places_now, length-append (heap_text h).places block, length-take-le n (reverse before) (omega (arith, enough, length-reverse before)))

  pub compound_grows : length (heap_text h).places + suc n < 2 ^ 32 → GrowsHeap h now
  compound_grows room = record {
    names = g.names;
    places = g.places ++ block;
    is = now_is ∙ (ap (λ (u : HeapView). heap_of u.program u.names (u.made ++ block)) g.is ∙ ap (heap_of h.program (h.names ++ g.names)) (append_assoc h.made g.places block));
    sound = record {
      text = subst (λ ns. AreSound (length ns) (heap_text now).places) (sym names_same) (still_sound (heap_text h).names (heap_text named).names (heap_text h).places (heap_text h) name f n before refl s.text k.numbered stand enough arity (heap_text now).places places_now);
      distinct = subst AreDistinct (sym names_same) g.sound.distinct;
      small = few_places room;
    };
  }

pub places_counted : (h named : HeapView) (name : List ℕ) (f : ℕ) → IsNumberedIn h named name f → (program : CodeView) (names : List (List ℕ)) (made : List Place) → heap_of program names made ≡ named → length (heap_text h).places ≡ length program.places + length made
places_counted h named name f k program names made v =
    ap length (sym k.places) ∙ (ap (λ (g : HeapView). length (heap_text g).places) (sym v) ∙ length-append program.places made)

pub shifted_arity : (base : ℕ) (c : Cell) → arity (shifted_cell base c) ≡ arity c
shifted_arity base (VarCell n) = refl
shifted_arity base (IntCell z) = refl
shifted_arity base (AtomCell a) = refl
shifted_arity base (FunctorCell f n) = refl
