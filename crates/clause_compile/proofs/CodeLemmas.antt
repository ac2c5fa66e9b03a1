-- Terms added to program text.
use Rattle.std.proofs.Common.{◌≡◌, ℕ, ℤ, zero, suc, ◌+◌, ◌-◌, ◌<◌, ◌≤◌, Bool, true, false, nat_le, List, [], ◌∷◌, ◌++◌, length, length-append, map, get_or, take, drop, reverse, refl, sym, ap, ap₂, ◌∙◌, subst, append-nil, append_assoc, arith}
use Rattle.std.specs.List.{list_all}
use Rattle.std.proofs.Math.Seq.{drop-append_seam, take-append_seam}
use Rattle.std.proofs.lemmas.Bool.Decides.{nat_tests}
use Rattle.std.proofs.lemmas.List.{map-append, drop-append-le, take-append-le, take_all, reverse-append, length-reverse, length-map}
use Rattle.au_term.specs.Term.{Term, VarTerm, IntTerm, AtomTerm, Compound, Terms, end, more, count, take_terms, drop_terms}
use Rattle.au_term.specs.PrefixOrder.{cells_of, terms_of, term_of, term_of-cells_of, subterm, with_cell, arity, IsForest}
use Rattle.au_term.specs.Arguments.{terms_of-cells}
use Rattle.au_term.specs.declared.cell.Cell.{Cell}
use Rattle.au_term.specs.declared.cell.Cell.TheVariants.{Var as VarCell, Int as IntCell, Atom as AtomCell, Functor as FunctorCell}
use Rattle.au_term.proofs.SubtermLemmas.{opens, forest_from}
use Rattle.au_model.specs.Terms.Each.{Each}
use Rattle.au_model.specs.Terms.Lists.{terms_from}
use Rattle.au_model.proofs.EachLemmas.{each-append, each-drop}
use Rattle.clause_compile.specs.AtomNumbers.{name_at, IsNumbered}
use Rattle.clause_compile.specs.GoalPlaces.{subterms_at}
use Rattle.clause_compile.specs.Places.{place_meaning, compound_here, compound_to, meaning_of, is_ground_place, BeginsCompound, BeginsGround, compound_place, IsPlaceBefore, StandBefore, IsArity, AreSound, CodeView, IsPlaceOf, meaning_in, Keeps, IsPlaced, AreAllPlaced, meanings, ArePlacesOf, AddsCell, HasMorePlaces}
use Rattle.clause_compile.specs.declared.place.Place.{Place}
use Rattle.clause_compile.specs.declared.place.Place.TheVariants.{Functor, Var, Int, Atom, Sub, Ground}
use Rattle.clause_compile.proofs.PlaceMeaningLemmas.{all_before_still, all_mean_still, added_keeps}
use Rattle.clause_compile.proofs.GroundPlaceLemmas.{compound_place-means, compound_place-before}

drop_past : {X : Type 0} (n m : ℕ) (xs ys : List X) → n ≡ m + length xs → drop n (xs ++ ys) ≡ drop m ys
drop_past n m [] ys e = let same : n ≡ m = omega arith in ap (λ k. drop k ys) same
drop_past zero m (x ∷ xs) ys e = absurd (omega arith)
drop_past (suc n) m (x ∷ xs) ys e = drop_past n m xs ys (omega arith)

-- text stays sound with one compound more
stands_still : (k m at : ℕ) (places added ds : List Place) → k ≤ m → 0 < length ds → StandBefore k places at ds → StandBefore m (places ++ added) at (ds ++ added)
stands_still k m at places added [] le lt s = absurd (omega arith)
stands_still k m at places added (Functor f n ∷ ps) le lt s =
    (omega (arith, s.0, length-append ps added), subst (Each (IsPlaceBefore m (places ++ added) at)) (sym (take-append-le n ps added s.0)) (all_before_still k m places added at at (take n ps) le (omega arith) s.1), s.2)
stands_still k m at places added (Var v ∷ ps) le lt s = tt
stands_still k m at places added (Int z ∷ ps) le lt s = tt
stands_still k m at places added (Atom a ∷ ps) le lt s = tt
stands_still k m at places added (Sub i ∷ ps) le lt s = tt
stands_still k m at places added (Ground i ∷ ps) le lt s = tt

argument_stands : (k m l at i : ℕ) (places all args : List Place) → Each (IsPlaceBefore k places l) args → StandBefore m all at (drop i args)
argument_stands k m l at zero places all [] b = tt
argument_stands k m l at (suc i) places all [] b = tt
argument_stands k m l at zero places all (Functor f n ∷ ps) b = absurd b.0
argument_stands k m l at zero places all (Var v ∷ ps) b = tt
argument_stands k m l at zero places all (Int z ∷ ps) b = tt
argument_stands k m l at zero places all (Atom a ∷ ps) b = tt
argument_stands k m l at zero places all (Sub j ∷ ps) b = tt
argument_stands k m l at zero places all (Ground j ∷ ps) b = tt
argument_stands k m l at (suc i) places all (p ∷ ps) b = argument_stands k m l at i places all ps b.1

pub block_sound : (k m f n : ℕ) (places args : List Place) → IsArity n → AreSound k places → k ≤ m → n ≡ length args → Each (IsPlaceBefore k places (length places)) args → AreSound m (places ++ Functor f n ∷ args)
block_sound k m f n places args r s le e b at = by_order (nat_le (length places) at) refl
  where
    new : List Place
    new = places ++ Functor f n ∷ args

    from_block : (j : ℕ) → length places ≤ at → StandBefore m new at (drop j (Functor f n ∷ args))
    from_block zero la = (omega arith, subst (Each (IsPlaceBefore m new at)) (sym (take_all n args (omega arith))) (all_before_still k m places (Functor f n ∷ args) (length places) at args le la b), r)
    from_block (suc j) la = argument_stands k m (length places) at j places new args b

    some_left : {X : Type 0} (i : ℕ) (xs : List X) → i < length xs → 0 < length (drop i xs)
    some_left i [] lt = absurd (omega arith)
    some_left zero (x ∷ xs) lt = omega arith
    some_left (suc i) (x ∷ xs) lt = some_left i xs (omega arith)

    by_order : (v : Bool) → nat_le (length places) at ≡ v → StandBefore m new at (drop at new)
    by_order true q =
        let la : length places ≤ at = grind (arith, nat_tests) in
        subst (StandBefore m new at) (sym (drop_past at (at - length places) places (Functor f n ∷ args) (omega arith))) (from_block (at - length places) la)
    by_order false q =
        let lt : at < length places = grind (arith, nat_tests) in
        subst (StandBefore m new at) (sym (drop-append-le at places (Functor f n ∷ args) (omega arith))) (stands_still k m at places (Functor f n ∷ args) (drop at places) le (some_left at places lt) (s at))

-- and where names were added
pub names_sound : (k m : ℕ) (places : List Place) → AreSound k places → k ≤ m → AreSound m places
names_sound k m places s le at = by_part (drop at places) (s at)
  where
    raised : (ps : List Place) → Each (IsPlaceBefore k places at) ps → Each (IsPlaceBefore m places at) ps
    raised ps b = subst (λ qs. Each (IsPlaceBefore m qs at) ps) (append-nil places) (all_before_still k m places [] at at ps le (omega arith) b)

    by_part : (ds : List Place) → StandBefore k places at ds → StandBefore m places at ds
    by_part [] h = tt
    by_part (Functor f n ∷ ps) h = (h.0, raised (take n ps) h.1, h.2)
    by_part (Var v ∷ ps) h = tt
    by_part (Int z ∷ ps) h = tt
    by_part (Atom a ∷ ps) h = tt
    by_part (Sub i ∷ ps) h = tt
    by_part (Ground i ∷ ps) h = tt

-- what the new compound means
pub block_means : (names further : List (List ℕ)) (places args : List Place) (f n : ℕ) → AreSound (length names) places → n ≡ length args → Each (IsPlaceBefore (length names) places (length places)) args
    → meaning_of (names ++ further) (places ++ Functor f n ∷ args) (Sub (length places)) ≡ Compound (name_at (names ++ further) f) (terms_from (map (meaning_of names places) args))
block_means names further places args f n s e b =
    let all = names ++ further in
    let new = places ++ Functor f n ∷ args in
    let q = length places + length args in
    let deep : length new ≡ suc q = omega (arith, length-append places (Functor f n ∷ args)) in
    ap (λ d. compound_to d all new (length places)) deep
    ∙ (ap (compound_here all (compound_to q all new)) (drop-append_seam places (Functor f n ∷ args))
    ∙ (ap (λ ps. Compound (name_at all f) (terms_from (map (place_meaning all (compound_to q all new)) ps))) (take_all n args (omega arith))
    ∙ ap (λ ts. Compound (name_at all f) (terms_from ts)) (all_mean_still names further places (Functor f n ∷ args) q args s (omega arith) b)))

-- places that are kept
pub keeps_same : (c : CodeView) → Keeps c c
keeps_same c = record { names = []; names_are = sym (append-nil c.names); places = []; places_are = sym (append-nil c.places); same = λ p b. (b, refl) }

pub keeps_twice : (a b c : CodeView) → Keeps a b → Keeps b c → Keeps a c
keeps_twice a b c h k = record {
  names = h.names ++ k.names;
  names_are = k.names_are ∙ (ap (λ ns. ns ++ k.names) h.names_are ∙ append_assoc a.names h.names k.names);
  places = h.places ++ k.places;
  places_are = k.places_are ∙ (ap (λ ps. ps ++ k.places) h.places_are ∙ append_assoc a.places h.places k.places);
  same = λ p there. let one = h.same p there in let two = k.same p one.0 in (two.0, two.1 ∙ one.1);
}

all_there : (old new : CodeView) (ps : List Place) → Keeps old new → Each (IsPlaceOf old) ps → Each (IsPlaceOf new) ps
all_there old new [] k b = tt
all_there old new (p ∷ ps) k b = ((k.same p b.0).0, all_there old new ps k b.1)

all_mean : (old new : CodeView) (ps : List Place) → Keeps old new → Each (IsPlaceOf old) ps → map (meaning_in new) ps ≡ map (meaning_in old) ps
all_mean old new [] k b = refl
all_mean old new (p ∷ ps) k b = ap₂ (λ t ts. t ∷ ts) (k.same p b.0).1 (all_mean old new ps k b.1)

turned : (xs : List Place) (x : Place) → reverse (xs ++ x ∷ []) ≡ x ∷ reverse xs
turned xs x = reverse-append xs (x ∷ [])

-- a cell without arguments
pub adds_leaf : (old new : CodeView) (c : Cell) (t : Term) (p : Place) (before after : List Place) → Keeps old new → IsPlaceOf new p → meaning_in new p ≡ t → ((ts : Terms) → with_cell c ts ≡ more t ts) → ArePlacesOf old before → after ≡ before ++ p ∷ [] → AddsCell old new c before after
adds_leaf old new c t p before after k there means w stand is =
    let front : reverse after ≡ p ∷ reverse before = ap reverse is ∙ turned before p in
    record {
      keeps = k;
      stand = subst (Each (IsPlaceOf new)) (sym front) (there, all_there old new (reverse before) k stand);
      means = ap (λ ps. terms_from (map (meaning_in new) ps)) front
          ∙ (ap₂ (λ u ts. more u (terms_from ts)) means (all_mean old new (reverse before) k stand) ∙ sym (w (meanings old before)));
    }

take_map : (f : Place → Term) (n : ℕ) (ps : List Place) → take_terms n (terms_from (map f ps)) ≡ terms_from (map f (take n ps))
take_map f zero ps = refl
take_map f (suc n) [] = refl
take_map f (suc n) (p ∷ ps) = ap (more (f p)) (take_map f n ps)

drop_map : (f : Place → Term) (n : ℕ) (ps : List Place) → drop_terms n (terms_from (map f ps)) ≡ terms_from (map f (drop n ps))
drop_map f zero ps = refl
drop_map f (suc n) [] = refl
drop_map f (suc n) (p ∷ ps) = drop_map f n ps

pub each_taken : {X : Type 0} (P : X → Type 0) (n : ℕ) (xs : List X) → Each P xs → Each P (take n xs)
each_taken P zero xs h = tt
each_taken P (suc n) [] h = tt
each_taken P (suc n) (x ∷ xs) h = (h.0, each_taken P n xs h.1)

length_taken : {X : Type 0} (n : ℕ) (xs : List X) → n ≤ length xs → n ≡ length (take n xs)
length_taken zero xs le = refl
length_taken (suc n) [] le = absurd (omega arith)
length_taken (suc n) (x ∷ xs) le = ap suc (length_taken n xs (omega arith))

-- a compound with its arguments
module _ (names further : List (List ℕ)) (places before : List Place) (f n : ℕ) (sound : AreSound (length names) places) (stand : Each (IsPlaceBefore (length names) places (length places)) (reverse before)) (few : n ≤ length before) where
  abbrev args : List Place
  args = take n (reverse before)

  abbrev old : CodeView
  old = record { names = names; places = places }

  abbrev new : CodeView
  new = record { names = names ++ further; places = places ++ Functor f n ∷ args }

  number : n ≡ length args
  number = length_taken n (reverse before) (omega (arith, length-reverse before))

  those : Each (IsPlaceBefore (length names) places (length places)) args
  those = each_taken (IsPlaceBefore (length names) places (length places)) n (reverse before) stand

  pub compound_sound : IsArity n → AreSound (length (names ++ further)) (places ++ Functor f n ∷ args)
  compound_sound r = block_sound (length names) (length (names ++ further)) f n places args r sound (omega (arith, length-append names further)) number those

  abbrev place : Place
  place = compound_place (length places) args

  own : f < length (names ++ further) → IsPlaceOf new place
  own known =
      let here = sym (drop-append_seam places (Functor f n ∷ args)) in
      let all : take n args ≡ args = take_all n args (omega (arith, number)) in
      compound_place-before (length (names ++ further)) (places ++ Functor f n ∷ args) (length (places ++ Functor f n ∷ args)) (length places) args (omega (arith, length-append places (Functor f n ∷ args)))
      (subst (BeginsCompound (length (names ++ further))) here (known, omega (arith, number))) (λ e. subst BeginsGround here (ap (list_all is_ground_place) all ∙ e))

  pub adds_compound : (name : List ℕ) (left after : List Place) → f < length (names ++ further) → name_at (names ++ further) f ≡ name → reverse left ≡ drop n (reverse before) → after ≡ left ++ compound_place (length places) args ∷ [] → AddsCell old new (FunctorCell name n) before after
  adds_compound name left after known named rest is =
      let k = added_keeps names further places (Functor f n ∷ args) sound in
      let front : reverse after ≡ place ∷ drop n (reverse before) = ap reverse is ∙ (turned left place ∙ ap (λ ps. place ∷ ps) rest) in
      let others = each-drop (IsPlaceOf old) n (reverse before) stand in
      let term : meaning_in new place ≡ Compound name (take_terms n (meanings old before)) =
      compound_place-means (names ++ further) (compound_to (length (places ++ Functor f n ∷ args)) (names ++ further) (places ++ Functor f n ∷ args)) (length places) args
      ∙ (block_means names further places args f n sound number those
      ∙ (ap (λ m. Compound m (terms_from (map (meaning_in old) args))) named ∙ ap (Compound name) (sym (take_map (meaning_in old) n (reverse before))))) in
      record {
        keeps = k;
        stand = subst (Each (IsPlaceOf new)) (sym front) (own known, all_there old new (drop n (reverse before)) k others);
        means = ap (λ ps. terms_from (map (meaning_in new) ps)) front
            ∙ ap₂ more term (ap terms_from (all_mean old new (drop n (reverse before)) k others) ∙ sym (drop_map (meaning_in old) n (reverse before)));
      }

-- how many terms the places on the stack mean
pub how_many : (c : CodeView) (stack : List Place) → count (meanings c stack) ≡ length stack
how_many c stack = counted (map (meaning_in c) (reverse stack)) ∙ (length-map (reverse stack) (meaning_in c) ∙ length-reverse stack)
  where
    counted : (ts : List Term) → count (terms_from ts) ≡ length ts
    counted [] = refl
    counted (t ∷ ts) = ap suc (counted ts)

-- the last place
pub placed : (old new : CodeView) (t : Term) (stack left : List Place) (p : Place) → Keeps old new → ArePlacesOf new stack → meanings new stack ≡ terms_of (cells_of t) → stack ≡ left ++ p ∷ [] → IsPlaced old new t p
placed old new t stack left p k stand means is =
    let front : reverse stack ≡ p ∷ reverse left = ap reverse is ∙ turned left p in
    let there = subst (Each (IsPlaceOf new)) front stand in
    let whole : more (meaning_in new p) (terms_from (map (meaning_in new) (reverse left))) ≡ more t end =
    ap (λ ps. terms_from (map (meaning_in new) ps)) (sym front) ∙ (means ∙ only t) in
    record { keeps = k; there = there.0; means = cc }
  where
    only : (t : Term) → terms_of (cells_of t) ≡ more t end
    only t = ap terms_of (sym (append-nil (cells_of t))) ∙ terms_of-cells (more t end)

pub none_missing : (c : CodeView) (t : Term) (stack : List Place) → meanings c stack ≡ terms_of (cells_of t) → stack ≡ [] → ⊥
none_missing c t stack means is =
    let empty : end ≡ more t end = ap (λ ps. meanings c ps) (sym is) ∙ (means ∙ (ap terms_of (sym (append-nil (cells_of t))) ∙ terms_of-cells (more t end))) in cc

-- one argument more
pub block_step : (rev : List Place) (i : ℕ) (x : Place) (rest : List Place) → x ∷ rest ≡ drop i rev → (take (i + 1) rev ≡ take i rev ++ x ∷ []) × (rest ≡ drop (i + 1) rev)
block_step [] zero x rest e = absurd cc
block_step [] (suc i) x rest e = absurd cc
block_step (y ∷ ys) zero x rest e = let first : x ≡ y = cc in let others : rest ≡ ys = cc in (ap (λ p. p ∷ []) (sym first), others)
block_step (y ∷ ys) (suc i) x rest e = let h = block_step ys i x rest e in let k : suc i + 1 ≡ suc (i + 1) = omega arith in rw k (ap (λ ps. y ∷ ps) h.0, h.1)

pub block_grows : (places olds news rev stack left : List Place) (p x : Place) (i : ℕ) → olds ≡ places ++ p ∷ take i rev → reverse stack ≡ drop i rev → stack ≡ left ++ x ∷ [] → news ≡ olds ++ x ∷ []
    → (news ≡ places ++ p ∷ take (i + 1) rev) × (reverse left ≡ drop (i + 1) rev)
block_grows places olds news rev stack left p x i o r s n =
    let step = block_step rev i x (reverse left) (sym (turned left x) ∙ (ap reverse (sym s) ∙ r)) in
    (n ∙ (ap (λ ps. ps ++ x ∷ []) o ∙ (append_assoc places (p ∷ take i rev) (x ∷ []) ∙ ap (λ ps. places ++ p ∷ ps) (sym step.0))), step.1)

-- cells without arguments
pub adds_variable : (old new : CodeView) (c : Cell) (n : ℕ) (p : Place) (before after : List Place) → c ≡ VarCell n → new ≡ old → p ≡ Var n → ArePlacesOf old before → after ≡ before ++ p ∷ [] → AddsCell old new c before after
adds_variable old new c n p before after e s q stand is =
    subst (λ d. AddsCell old new d before after) (sym e) (subst (λ v. AddsCell old v (VarCell n) before after) (sym s)
    (adds_leaf old old (VarCell n) (VarTerm n) (Var n) before after (keeps_same old) tt refl (λ ts. refl) stand (is ∙ ap (λ x. before ++ x ∷ []) q)))

pub adds_integer : (old new : CodeView) (c : Cell) (z : ℤ) (p : Place) (before after : List Place) → c ≡ IntCell z → new ≡ old → p ≡ Int z → ArePlacesOf old before → after ≡ before ++ p ∷ [] → AddsCell old new c before after
adds_integer old new c z p before after e s q stand is =
    subst (λ d. AddsCell old new d before after) (sym e) (subst (λ v. AddsCell old v (IntCell z) before after) (sym s)
    (adds_leaf old old (IntCell z) (IntTerm z) (Int z) before after (keeps_same old) tt refl (λ ts. refl) stand (is ∙ ap (λ x. before ++ x ∷ []) q)))

same_code : {ms ns : List (List ℕ)} {ps qs : List Place} → ms ≡ ns → ps ≡ qs → (let c : CodeView = record { names = ms; places = ps } in c) ≡ record { names = ns; places = qs }
same_code e f = cc

pub adds_atom : (names now : List (List ℕ)) (places : List Place) (old new : CodeView) (c : Cell) (name : List ℕ) (f : ℕ) (p : Place) (before after : List Place) → record { names = names; places = places } ≡ old → new ≡ record { names = now; places = places } → AreSound (length names) places
    → IsNumbered names now name f → c ≡ AtomCell name → p ≡ Atom f → ArePlacesOf old before → after ≡ before ++ p ∷ [] → AddsCell old new c before after
adds_atom names now places old new c name f p before after o n s k e q stand is =
    let view : CodeView = record { names = names; places = places } in
    let grown : CodeView = record { names = names ++ k.more; places = places ++ [] } in
    let same : new ≡ grown = n ∙ same_code k.is (sym (append-nil places)) in
    let known : f < length (names ++ k.more) = subst (λ ns. f < length ns) k.is k.within in
    let named : name_at (names ++ k.more) f ≡ name = ap (λ ns. name_at ns f) (sym k.is) ∙ k.named in
    let leaf : AddsCell view grown (AtomCell name) before after =
    adds_leaf view grown (AtomCell name) (AtomTerm name) (Atom f) before after (added_keeps names k.more places [] s) known (ap AtomTerm named) (λ ts. refl) (subst (λ v. ArePlacesOf v before) (sym o) stand) (is ∙ ap (λ x. before ++ x ∷ []) q) in
    subst (λ d. AddsCell old new d before after) (sym e) (subst (λ v. AddsCell old v (AtomCell name) before after) (sym same) (subst (λ v. AddsCell v grown (AtomCell name) before after) o leaf))

-- a compound, as it is added
module _ (names now : List (List ℕ)) (places : List Place) (old : CodeView) (name : List ℕ) (f n : ℕ) (before : List Place) (o : record { names = names; places = places } ≡ old) (s : AreSound (length names) places) (k : IsNumbered names now name f) (stand : ArePlacesOf old before) (few : n ≤ length before) where
  standing : Each (IsPlaceBefore (length names) places (length places)) (reverse before)
  standing = subst (λ v. ArePlacesOf v before) (sym o) stand

  pub still_sound : IsArity n → (now_places : List Place) → now_places ≡ places ++ Functor f n ∷ take n (reverse before) → AreSound (length now) now_places
  still_sound r now_places e =
      subst (λ ns. AreSound (length ns) now_places) (sym k.is) (subst (AreSound (length (names ++ k.more))) (sym e) (compound_sound names k.more places before f n s standing few r))

  pub compound_added : (view : CodeView) (now_places left after : List Place) → view ≡ record { names = now; places = now_places } → now_places ≡ places ++ Functor f n ∷ take n (reverse before) → reverse left ≡ drop n (reverse before) → after ≡ left ++ compound_place (length places) (take n (reverse before)) ∷ []
      → AddsCell old view (FunctorCell name n) before after
  compound_added view now_places left after v e r a =
      let known : f < length (names ++ k.more) = subst (λ ns. f < length ns) k.is k.within in
      let named : name_at (names ++ k.more) f ≡ name = ap (λ ns. name_at ns f) (sym k.is) ∙ k.named in
      subst (λ w. AddsCell old w (FunctorCell name n) before after) (sym (v ∙ same_code k.is e))
      (subst (λ w. AddsCell w (record { names = names ++ k.more; places = places ++ Functor f n ∷ take n (reverse before) }) (FunctorCell name n) before after) o
      (adds_compound names k.more places before f n s standing few name left after known named r a))

  pub taken_back : (some now_places : List Place) (i : ℕ) → HasMorePlaces places some → i ≡ length places → now_places ≡ take i some → AreSound (length now) now_places
  taken_back some now_places i g e t =
      let same : now_places ≡ places = t ∙ (ap (take i) g.is ∙ (ap (λ j. take j (places ++ g.more)) e ∙ take-append_seam places g.more)) in
      subst (AreSound (length now)) (sym same) (names_sound (length names) (length now) places s (omega (arith, ap length k.is, length-append names k.more)))

-- one cell more of a term
pub cell_added : (first old new : CodeView) (c : Cell) (cells : List Cell) (i : ℕ) (before after : List Place) → Keeps first old → meanings old before ≡ terms_of (drop (suc i) cells) → drop i cells ≡ c ∷ drop (suc i) cells → AddsCell old new c before after
    → Keeps first new × (meanings new after ≡ terms_of (drop i cells))
cell_added first old new c cells i before after k m d a = (keeps_twice first old new k a.keeps, a.means ∙ (ap (with_cell c) m ∙ ap terms_of (sym d)))

pub enough_there : (c : Cell) (cells : List Cell) (i : ℕ) (code : CodeView) (stack : List Place) → IsForest cells → drop i cells ≡ c ∷ drop (suc i) cells → meanings code stack ≡ terms_of (drop (suc i) cells) → arity c ≤ length stack
enough_there c cells i code stack f d m =
    let o = opens c (drop (suc i) cells) (subst IsForest d (forest_from cells i f)) in
    omega (arith, o.enough, how_many code stack, ap count m)

pub cells_kept : (cells : List Cell) (t : Term) → cells ≡ cells_of t → cells_of (term_of cells) ≡ cells
cells_kept cells t e = ap (λ cs. cells_of (term_of cs)) e ∙ (ap cells_of (term_of-cells_of t) ∙ sym e)

-- one term more
pub one_more_placed : (first old new : CodeView) (ts : List Term) (t : Term) (ps now : List Place) (p : Place) → AreAllPlaced first old ts ps → IsPlaced old new t p → now ≡ ps ++ p ∷ [] → AreAllPlaced first new (ts ++ t ∷ []) now
one_more_placed first old new ts t ps now p a one is = record {
  keeps = keeps_twice first old new a.keeps one.keeps;
  there = subst (Each (IsPlaceOf new)) (sym is) (each-append (IsPlaceOf new) ps (p ∷ []) (all_there old new ps one.keeps a.there) (one.there, tt));
  mean = ap (map (meaning_in new)) is ∙ (map-append (meaning_in new) ps (p ∷ []) ∙ ap₂ (λ us u. us ++ u ∷ []) (all_mean old new ps one.keeps a.there ∙ a.mean) one.means);
}

pub each_get : (P : ℕ → Type 0) (xs : List ℕ) (i : ℕ) → Each P xs → i < length xs → P (get_or xs i 0)
each_get P [] i h lt = absurd (omega arith)
each_get P (x ∷ xs) zero h lt = h.0
each_get P (x ∷ xs) (suc i) h lt = each_get P xs i h.1 (omega arith)

pub next_subterm : (t : Term) (xs : List ℕ) (i : ℕ) → i < length xs → subterms_at t (take (i + 1) xs) ≡ subterms_at t (take i xs) ++ subterm (get_or xs i 0) t ∷ []
next_subterm t [] i lt = absurd (omega arith)
next_subterm t (x ∷ xs) zero lt = refl
next_subterm t (x ∷ xs) (suc i) lt = let k : suc i + 1 ≡ suc (i + 1) = omega arith in rw k (ap (λ us. subterm x t ∷ us) (next_subterm t xs i (omega arith)))

pub goal_placed : (old new : CodeView) (cells : List Cell) (t : Term) (p : Place) → cells ≡ cells_of t → IsPlaced old new (term_of cells) p → IsPlaced old new t p
goal_placed old new cells t p e h = subst (λ u. IsPlaced old new u p) (ap term_of e ∙ term_of-cells_of t) h

pub none_placed : (c : CodeView) (ps : List Place) → ps ≡ [] → AreAllPlaced c c [] ps
none_placed c ps e = subst (AreAllPlaced c c []) (sym e) (record { keeps = keeps_same c; there = tt; mean = refl })
