-- What places mean, as text is added.
use Rattle.std.proofs.Common.{◌≡◌, ℕ, zero, suc, ◌<◌, ◌≤◌, List, [], ◌∷◌, ◌++◌, length, length-append, map, take, drop, refl, sym, ap, ap₂, ◌∙◌, subst, append-nil, arith}
use Rattle.std.proofs.lemmas.List.{drop-append-le, take-append-le}
use Rattle.std.specs.List.{list_all}
use Rattle.au_term.specs.Term.{Term, AtomTerm, Compound}
use Rattle.au_model.specs.Terms.Each.{Each}
use Rattle.au_model.specs.Terms.Lists.{terms_from}
use Rattle.clause_compile.specs.AtomNumbers.{name_at}
use Rattle.clause_compile.specs.Places.{place_meaning, compound_here, compound_to, meaning_of, is_ground_place, BeginsCompound, BeginsGround, IsPlaceBefore, StandBefore, AreSound, Keeps}
use Rattle.clause_compile.specs.declared.place.Place.{Place}
use Rattle.clause_compile.specs.declared.place.Place.TheVariants.{Functor, Var, Int, Atom, Sub, Ground}
use Rattle.clause_compile.proofs.AtomNumberLemmas.{name_at-front}

-- a compound begins within
pub begins_within : (k : ℕ) (places : List Place) (at : ℕ) → BeginsCompound k (drop at places) → at < length places
begins_within k [] zero h = absurd h
begins_within k [] (suc at) h = absurd h
begins_within k (p ∷ ps) zero h = omega arith
begins_within k (p ∷ ps) (suc at) h = let lt = begins_within k ps at h in omega arith

-- the names and the compounds before a place decide
module _ (k : ℕ) (names all : List (List ℕ)) (places : List Place) (at : ℕ) (g h : ℕ → Term) (known : (i : ℕ) → i < k → name_at all i ≡ name_at names i) (same : (i : ℕ) → i < at → BeginsCompound k (drop i places) → g i ≡ h i) where
  same_place : (p : Place) → IsPlaceBefore k places at p → place_meaning all g p ≡ place_meaning names h p
  same_place (Functor f n) b = absurd b
  same_place (Var v) b = refl
  same_place (Int z) b = refl
  same_place (Atom a) b = ap (λ m. AtomTerm m) (known a b)
  same_place (Sub i) b = same i b.0 b.1
  same_place (Ground i) b = same i b.0 b.1

  same_places : (ps : List Place) → Each (IsPlaceBefore k places at) ps → map (place_meaning all g) ps ≡ map (place_meaning names h) ps
  same_places [] b = refl
  same_places (p ∷ ps) b = ap₂ (λ t ts. t ∷ ts) (same_place p b.0) (same_places ps b.1)

  same_here : (ds es more : List Place) → es ≡ ds ++ more → BeginsCompound k ds → StandBefore k places at ds → compound_here all g es ≡ compound_here names h ds
  same_here [] es more e b s = absurd b
  same_here (Functor f n ∷ ps) es more e b s =
      ap (compound_here all g) e
      ∙ (ap (λ m. Compound m (terms_from (map (place_meaning all g) (take n (ps ++ more))))) (known f b.0)
      ∙ (ap (λ qs. Compound (name_at names f) (terms_from (map (place_meaning all g) qs))) (take-append-le n ps more b.1)
      ∙ ap (λ ts. Compound (name_at names f) (terms_from ts)) (same_places (take n ps) s.1)))
  same_here (Var v ∷ ps) es more e b s = absurd b
  same_here (Int z ∷ ps) es more e b s = absurd b
  same_here (Atom a ∷ ps) es more e b s = absurd b
  same_here (Sub i ∷ ps) es more e b s = absurd b
  same_here (Ground i ∷ ps) es more e b s = absurd b

-- deep enough is deep enough
pub deep_same : (k : ℕ) (names : List (List ℕ)) (places : List Place) → AreSound k places → (n m at : ℕ) → at < n → at < m → BeginsCompound k (drop at places) → compound_to n names places at ≡ compound_to m names places at
deep_same k names places s zero m at ln lm b = absurd (omega arith)
deep_same k names places s (suc n) zero at ln lm b = absurd (omega arith)
deep_same k names places s (suc n) (suc m) at ln lm b =
    same_here k names names places at (compound_to n names places) (compound_to m names places) (λ i lt. refl) (λ i lt c. deep_same k names places s n m i (omega arith) (omega arith) c) (drop at places) (drop at places) [] (sym (append-nil (drop at places))) b (s at)

-- what is added changes nothing
pub added_same : (k : ℕ) (names further : List (List ℕ)) (places more : List Place) → k ≡ length names → AreSound k places → (n at : ℕ) → BeginsCompound k (drop at places) → compound_to n (names ++ further) (places ++ more) at ≡ compound_to n names places at
added_same k names further places more e s zero at b = refl
added_same k names further places more e s (suc n) at b =
    let lt = begins_within k places at b in
    same_here k names (names ++ further) places at (compound_to n (names ++ further) (places ++ more)) (compound_to n names places) (λ i l. name_at-front names further i (omega arith)) (λ i l c. added_same k names further places more e s n i c) (drop at places) (drop at (places ++ more)) more (drop-append-le at places more (omega arith)) b (s at)

begins_still : (k m : ℕ) (ds more : List Place) → k ≤ m → BeginsCompound k ds → BeginsCompound m (ds ++ more)
begins_still k m [] more le b = absurd b
begins_still k m (Functor f n ∷ ps) more le b = (omega (arith, b.0), omega (arith, b.1, length-append ps more))
begins_still k m (Var v ∷ ps) more le b = absurd b
begins_still k m (Int z ∷ ps) more le b = absurd b
begins_still k m (Atom a ∷ ps) more le b = absurd b
begins_still k m (Sub i ∷ ps) more le b = absurd b
begins_still k m (Ground i ∷ ps) more le b = absurd b

-- there are so many places after the functor
ground_still : (k : ℕ) (ds more : List Place) → BeginsCompound k ds → BeginsGround ds → BeginsGround (ds ++ more)
ground_still k [] more b g = absurd b
ground_still k (Functor f n ∷ ps) more b g = ap (list_all is_ground_place) (take-append-le n ps more b.1) ∙ g
ground_still k (Var v ∷ ps) more b g = absurd b
ground_still k (Int z ∷ ps) more b g = absurd b
ground_still k (Atom a ∷ ps) more b g = absurd b
ground_still k (Sub i ∷ ps) more b g = absurd b
ground_still k (Ground i ∷ ps) more b g = absurd b

pub before_still : (k m : ℕ) (places more : List Place) (at next : ℕ) (p : Place) → k ≤ m → at ≤ next → IsPlaceBefore k places at p → IsPlaceBefore m (places ++ more) next p
before_still k m places more at next (Functor f n) lk la b = absurd b
before_still k m places more at next (Var v) lk la b = tt
before_still k m places more at next (Int z) lk la b = tt
before_still k m places more at next (Atom a) lk la b = omega (arith, b)
before_still k m places more at next (Sub i) lk la b =
    let lt = begins_within k places i b.1 in
    (omega (arith, b.0), subst (BeginsCompound m) (sym (drop-append-le i places more (omega arith))) (begins_still k m (drop i places) more lk b.1))
before_still k m places more at next (Ground i) lk la b =
    let lt = begins_within k places i b.1 in
    let there = sym (drop-append-le i places more (omega arith)) in
    (omega (arith, b.0), subst (BeginsCompound m) there (begins_still k m (drop i places) more lk b.1), subst BeginsGround there (ground_still k (drop i places) more b.1 b.2))

pub all_before_still : (k m : ℕ) (places more : List Place) (at next : ℕ) (ps : List Place) → k ≤ m → at ≤ next → Each (IsPlaceBefore k places at) ps → Each (IsPlaceBefore m (places ++ more) next) ps
all_before_still k m places more at next [] lk la b = tt
all_before_still k m places more at next (p ∷ ps) lk la b = (before_still k m places more at next p lk la b.0, all_before_still k m places more at next ps lk la b.1)

-- a place means the same to any depth that is enough
pub means_still : (names further : List (List ℕ)) (places more : List Place) (n : ℕ) (p : Place) → AreSound (length names) places → length places ≤ n → IsPlaceBefore (length names) places (length places) p
    → place_meaning (names ++ further) (compound_to n (names ++ further) (places ++ more)) p ≡ meaning_of names places p
means_still names further places more n (Functor f k) s le b = absurd b
means_still names further places more n (Var v) s le b = refl
means_still names further places more n (Int z) s le b = refl
means_still names further places more n (Atom a) s le b = ap (λ m. AtomTerm m) (name_at-front names further a b)
means_still names further places more n (Sub i) s le b =
    added_same (length names) names further places more refl s n i b.1 ∙ deep_same (length names) names places s n (length places) i (omega (arith, b.0)) b.0 b.1
means_still names further places more n (Ground i) s le b =
    added_same (length names) names further places more refl s n i b.1 ∙ deep_same (length names) names places s n (length places) i (omega (arith, b.0)) b.0 b.1

pub all_mean_still : (names further : List (List ℕ)) (places more : List Place) (n : ℕ) (ps : List Place) → AreSound (length names) places → length places ≤ n → Each (IsPlaceBefore (length names) places (length places)) ps
    → map (place_meaning (names ++ further) (compound_to n (names ++ further) (places ++ more))) ps ≡ map (meaning_of names places) ps
all_mean_still names further places more n [] s le b = refl
all_mean_still names further places more n (p ∷ ps) s le b = ap₂ (λ t ts. t ∷ ts) (means_still names further places more n p s le b.0) (all_mean_still names further places more n ps s le b.1)

pub added_keeps : (names further : List (List ℕ)) (places more : List Place) → AreSound (length names) places → Keeps (record { names = names; places = places }) (record { names = names ++ further; places = places ++ more })
added_keeps names further places more s = record {
  names = further;
  names_are = refl;
  places = more;
  places_are = refl;
  same = λ p b. (
    before_still (length names) (length (names ++ further)) places more (length places) (length (places ++ more)) p (omega (arith, length-append names further)) (omega (arith, length-append places more)) b,
    means_still names further places more (length (places ++ more)) p s (omega (arith, length-append places more)) b,
  );
}
