-- The compound at a place, and its first argument.
use Rattle.std.proofs.Common.{◌≡◌, ℕ, zero, suc, ◌<◌, ◌≤◌, List, [], ◌∷◌, length, Option, map, take, drop, refl, sym, ap, ap₂, ◌∙◌, subst, arith}
use Rattle.au_term.specs.Term.{Term, Compound, count}
use Rattle.au_model.specs.Terms.Each.{Each}
use Rattle.au_model.specs.Terms.Lists.{terms_from}
use Rattle.clause_compile.specs.AtomNumbers.{name_at}
use Rattle.clause_compile.specs.Places.{CodeView, place_meaning, compound_here, compound_to, meaning_of, meaning_in, BeginsCompound, IsPlaceBefore, IsPlaceOf, StandBefore, AreSound}
use Rattle.clause_index.specs.Functors.{IsFunctorAt, places_after}
use Rattle.clause_index.specs.HeadKeys.{IsKeyAmong, IsHeadKeyOf, named_key}
use Rattle.clause_index.specs.declared.key.NumberKey.{NumberKey}
use Rattle.proc_index.specs.Keys.{key_of, head_key}
use Rattle.proc_index.specs.declared.key.Key.TheVariants.{Functor as FunctorKey}
use Rattle.clause_compile.specs.declared.place.Place.{Place}
use Rattle.clause_compile.specs.declared.place.Place.TheVariants.{Functor, Var, Int, Atom, Sub, Ground}
use Rattle.clause_compile.proofs.PlaceMeaningLemmas.{begins_within, deep_same}

module _ (names : List (List ℕ)) (places : List Place) (s : AreSound (length names) places) where
  -- one level less deep is deep enough before a place
  one_less : (m at : ℕ) (p : Place) → length places ≡ suc m → at < suc m → IsPlaceBefore (length names) places at p → place_meaning names (compound_to m names places) p ≡ meaning_of names places p
  one_less m at (Functor f n) e lt b = absurd b
  one_less m at (Var v) e lt b = refl
  one_less m at (Int z) e lt b = refl
  one_less m at (Atom a) e lt b = refl
  one_less m at (Sub i) e lt b = deep_same (length names) names places s m (length places) i (omega (arith, b.0)) (omega (arith, b.0)) b.1
  one_less m at (Ground i) e lt b = deep_same (length names) names places s m (length places) i (omega (arith, b.0)) (omega (arith, b.0)) b.1

  all_less : (m at : ℕ) (ps : List Place) → length places ≡ suc m → at < suc m → Each (IsPlaceBefore (length names) places at) ps → map (place_meaning names (compound_to m names places)) ps ≡ map (meaning_of names places) ps
  all_less m at [] e lt b = refl
  all_less m at (p ∷ ps) e lt b = ap₂ (λ t ts. t ∷ ts) (one_less m at p e lt b.0) (all_less m at ps e lt b.1)

  compound_is : (l at f n : ℕ) (ps : List Place) → length places ≡ l → at < l → drop at places ≡ Functor f n ∷ ps → Each (IsPlaceBefore (length names) places at) (take n ps)
      → compound_to l names places at ≡ Compound (name_at names f) (terms_from (map (meaning_of names places) (take n ps)))
  compound_is zero at f n ps e lt d b = absurd (omega arith)
  compound_is (suc m) at f n ps e lt d b =
      ap (compound_here names (compound_to m names places)) d ∙ ap (λ ts. Compound (name_at names f) (terms_from ts)) (all_less m at (take n ps) e lt b)

pub functor_is : (c : CodeView) (at f n : ℕ) → AreSound (length c.names) c.places → BeginsCompound (length c.names) (drop at c.places) → drop at c.places ≡ Functor f n ∷ places_after c at → IsFunctorAt c at f n
functor_is c at f n s b d =
    let ps = places_after c at in
    let begins = subst (BeginsCompound (length c.names)) d b in
    let stands = subst (StandBefore (length c.names) c.places at) d (s at) in
    let within = begins_within (length c.names) c.places at b in
    record { named = begins.0; some = stands.2.0; enough = begins.1; before = stands.1; within = within; meaning = compound_is c.names c.places s (length c.places) at f n ps refl within d stands.1 }

-- what is before a place is in the text
pub place_there : (k : ℕ) (places : List Place) (at : ℕ) (p : Place) → at < length places → IsPlaceBefore k places at p → IsPlaceBefore k places (length places) p
place_there k places at (Functor f n) lt b = absurd b
place_there k places at (Var v) lt b = tt
place_there k places at (Int z) lt b = tt
place_there k places at (Atom a) lt b = b
place_there k places at (Sub i) lt b = (omega (arith, b.0), b.1)
place_there k places at (Ground i) lt b = (omega (arith, b.0), b.1, b.2)

pub count_from : (n : ℕ) (f : Place → Term) (ps : List Place) → n ≤ length ps → count (terms_from (map f (take n ps))) ≡ n
count_from zero f ps le = refl
count_from (suc n) f [] le = absurd (omega arith)
count_from (suc n) f (p ∷ ps) le = ap suc (count_from n f ps (omega arith))

-- the key of a compound
pub compound_key : (c : CodeView) (at f n : ℕ) → IsFunctorAt c at f n → FunctorKey (name_at c.names f) n ≡ key_of (meaning_in c (Sub at))
compound_key c at f n h = ap (FunctorKey (name_at c.names f)) (sym (count_from n (meaning_in c) (places_after c at) h.enough)) ∙ ap key_of (sym h.meaning)

-- the first argument's place
pub first_there : (c : CodeView) (at f n : ℕ) (p : Place) (ps : List Place) → IsFunctorAt c at f n → places_after c at ≡ p ∷ ps → IsPlaceOf c p
first_there c at f n p ps h e = by_count n h.some (subst (λ qs. Each (IsPlaceBefore (length c.names) c.places at) (take n qs)) e h.before)
  where
    by_count : (m : ℕ) → 0 < m → Each (IsPlaceBefore (length c.names) c.places at) (take m (p ∷ ps)) → IsPlaceOf c p
    by_count zero lt b = absurd (omega arith)
    by_count (suc m) lt b = place_there (length c.names) c.places at p h.within b.0

-- the numbers of the compound at a place, by those of its first argument
pub compound_numbers : (c : CodeView) (at f n : ℕ) (p : Place) (ps : List Place) (o : Option NumberKey) → IsFunctorAt c at f n → places_after c at ≡ p ∷ ps → IsKeyAmong c.names o → named_key c.names o ≡ key_of (meaning_in c p)
    → IsHeadKeyOf c.names (meaning_in c (Sub at)) (record { name = f; arity = n; first = o })
compound_numbers c at f n p ps o h e there key =
    let known : meaning_in c (Sub at) ≡ Compound (name_at c.names f) (terms_from (map (meaning_in c) (take n (p ∷ ps)))) =
    h.meaning ∙ ap (λ qs. Compound (name_at c.names f) (terms_from (map (meaning_in c) (take n qs)))) e in
    subst (λ t. IsHeadKeyOf c.names t (record { name = f; arity = n; first = o })) (sym known) (record {
      callable = refl;
      name_there = h.named;
      name = refl;
      arity = sym (count_from n (meaning_in c) (p ∷ ps) (subst (λ qs. n ≤ length qs) e h.enough));
      key_there = there;
      first = key ∙ first_of n h.some;
    })
  where
    first_of : (m : ℕ) → 0 < m → key_of (meaning_in c p) ≡ head_key (Compound (name_at c.names f) (terms_from (map (meaning_in c) (take m (p ∷ ps)))))
    first_of zero lt = absurd (omega arith)
    first_of (suc m) lt = refl
