-- Places whose terms have no variables.
use Rattle.std.proofs.Common.{◌≡◌, ◌⊎◌, inl, inr, ℕ, zero, suc, ◌+◌, ◌-◌, ◌<◌, ◌≤◌, Bool, true, false, if◌then◌else◌, List, [], ◌∷◌, length, get_or, map, take, drop, reverse, refl, sym, ap, ap₂, ◌∙◌, subst, arith}
use Rattle.std.specs.List.{list_all}
use Rattle.std.proofs.lemmas.List.{get_or-reverse, get_or-take, length-reverse, length-take}
use Rattle.std.proofs.lemmas.List.Folds.{list_all_more, list_all_at}
use Rattle.au_term.specs.Term.{Term, VarTerm, IntTerm, AtomTerm, Compound, Terms, end, more, var_bound, all_bound}
use Rattle.au_term.specs.Shifted.{shifted, all_shifted}
use Rattle.au_term.proofs.LogicLemmas.{both}
use Rattle.au_model.specs.Terms.Each.{Each}
use Rattle.au_model.specs.Terms.Lists.{terms_from}
use Rattle.clause_compile.specs.Places.{place_meaning, compound_here, compound_to, is_ground_place, BeginsCompound, BeginsGround, compound_place, IsPlaceBefore, StandBefore, AreSound, CodeView, IsPlaceOf, meaning_in}
use Rattle.clause_compile.specs.declared.place.Place.{Place}
use Rattle.clause_compile.specs.declared.place.Place.TheVariants.{Functor, Var, Int, Atom, Sub, Ground}

-- whether or not its arguments have variables, the place of a compound means it
pub compound_place-means : (names : List (List ℕ)) (g : ℕ → Term) (at : ℕ) (args : List Place) → place_meaning names g (compound_place at args) ≡ g at
compound_place-means names g at args = by_test (list_all is_ground_place args)
  where
    by_test : (b : Bool) → place_meaning names g (if b then Ground at else Sub at) ≡ g at
    by_test true = refl
    by_test false = refl

pub compound_place-before : (k : ℕ) (places : List Place) (next at : ℕ) (args : List Place) → at < next → BeginsCompound k (drop at places) → (list_all is_ground_place args ≡ true → BeginsGround (drop at places)) → IsPlaceBefore k places next (compound_place at args)
compound_place-before k places next at args lt begins none = by_test (list_all is_ground_place args) none
  where
    by_test : (b : Bool) → (b ≡ true → BeginsGround (drop at places)) → IsPlaceBefore k places next (if b then Ground at else Sub at)
    by_test true h = (lt, begins, h refl)
    by_test false h = (lt, begins)

pub compound_at : (c : CodeView) (p : Place) (at : ℕ) → (p ≡ Sub at) ⊎ (p ≡ Ground at) → IsPlaceOf c p → IsPlaceOf c (Sub at) × (meaning_in c p ≡ meaning_in c (Sub at))
compound_at c p at (inl e) there = (subst (IsPlaceOf c) e there, ap (meaning_in c) e)
compound_at c p at (inr e) there = let h = subst (IsPlaceOf c) e there in ((h.0, h.1), ap (meaning_in c) e)

-- where the compounds before a place have no variables
module _ (k : ℕ) (names : List (List ℕ)) (places : List Place) (at : ℕ) (g : ℕ → Term) (known : (i : ℕ) → i < at → BeginsCompound k (drop i places) → BeginsGround (drop i places) → var_bound (g i) ≡ 0) where
  ground_place : (p : Place) → IsPlaceBefore k places at p → is_ground_place p ≡ true → var_bound (place_meaning names g p) ≡ 0
  ground_place (Functor f n) b e = absurd b
  ground_place (Var v) b e = absurd cc
  ground_place (Int z) b e = refl
  ground_place (Atom a) b e = refl
  ground_place (Sub i) b e = absurd cc
  ground_place (Ground i) b e = known i b.0 b.1 b.2

  ground_places : (ps : List Place) → Each (IsPlaceBefore k places at) ps → list_all is_ground_place ps ≡ true → all_bound (terms_from (map (place_meaning names g) ps)) ≡ 0
  ground_places [] b e = refl
  ground_places (p ∷ ps) b e = let h = both (is_ground_place p) (list_all is_ground_place ps) e in omega (arith, ground_place p b.0 h.0, ground_places ps b.1 h.1)

  ground_here : (ds : List Place) → BeginsCompound k ds → BeginsGround ds → StandBefore k places at ds → var_bound (compound_here names g ds) ≡ 0
  ground_here [] b e s = absurd b
  ground_here (Functor f n ∷ ps) b e s = ground_places (take n ps) s.1 e
  ground_here (Var v ∷ ps) b e s = absurd b
  ground_here (Int z ∷ ps) b e s = absurd b
  ground_here (Atom a ∷ ps) b e s = absurd b
  ground_here (Sub i ∷ ps) b e s = absurd b
  ground_here (Ground i ∷ ps) b e s = absurd b

ground_to : (k : ℕ) (names : List (List ℕ)) (places : List Place) → AreSound k places → (n at : ℕ) → at < n → BeginsCompound k (drop at places) → BeginsGround (drop at places) → var_bound (compound_to n names places at) ≡ 0
ground_to k names places s zero at lt b e = absurd (omega arith)
ground_to k names places s (suc n) at lt b e =
    ground_here k names places at (compound_to n names places) (λ i li c d. ground_to k names places s n i (omega arith) c d) (drop at places) b e (s at)

-- what such a place means has no variables
pub ground_bound : (c : CodeView) (p : Place) → AreSound (length c.names) c.places → IsPlaceOf c p → is_ground_place p ≡ true → var_bound (meaning_in c p) ≡ 0
ground_bound c p s b e =
    ground_place (length c.names) c.names c.places (length c.places) (compound_to (length c.places) c.names c.places) (λ i lt d g. ground_to (length c.names) c.names c.places s (length c.places) i lt d g) p b e

-- and is the same whatever is added to its variables
mutual
  shifted_closed : (base : ℕ) (t : Term) → var_bound t ≡ 0 → shifted base t ≡ t
  shifted_closed base (VarTerm n) h = absurd (omega arith)
  shifted_closed base (IntTerm z) h = refl
  shifted_closed base (AtomTerm a) h = refl
  shifted_closed base (Compound f ts) h = ap (Compound f) (all_shifted_closed base ts h)

  all_shifted_closed : (base : ℕ) (ts : Terms) → all_bound ts ≡ 0 → all_shifted base ts ≡ ts
  all_shifted_closed base end h = refl
  all_shifted_closed base (more t ts) h = ap₂ more (shifted_closed base t (omega arith)) (all_shifted_closed base ts (omega arith))

pub ground_shifted : (c : CodeView) (p : Place) (base : ℕ) → AreSound (length c.names) c.places → IsPlaceOf c p → is_ground_place p ≡ true → shifted base (meaning_in c p) ≡ meaning_in c p
ground_shifted c p base s b e = shifted_closed base (meaning_in c p) (ground_bound c p s b e)

-- the topmost places of a stack, one after the other
place_read : (stack : List Place) (i : ℕ) (d : Place) (b : Bool) → i < length stack → b ≡ is_ground_place (get_or stack (length stack - 1 - i) d) → b ≡ is_ground_place (get_or (reverse stack) i d)
place_read stack i d b lt e = e ∙ ap is_ground_place (sym (get_or-reverse stack i d lt))

pub one_more_ground : (stack : List Place) (i : ℕ) (d : Place) (b : Bool) → i < length stack → list_all is_ground_place (take i (reverse stack)) ≡ true → b ≡ is_ground_place (get_or stack (length stack - 1 - i) d) → b ≡ true → list_all is_ground_place (take (i + 1) (reverse stack)) ≡ true
one_more_ground stack i d b lt all e t =
    let here : is_ground_place (get_or (reverse stack) i d) ≡ true = sym (place_read stack i d b lt e) ∙ t in
    let further = list_all_more is_ground_place (reverse stack) i d (omega (arith, length-reverse stack)) in
    cc

pub one_not_ground : (stack : List Place) (i n : ℕ) (d : Place) (b : Bool) → i < n → n ≤ length stack → b ≡ is_ground_place (get_or stack (length stack - 1 - i) d) → b ≡ false → false ≡ list_all is_ground_place (take n (reverse stack))
one_not_ground stack i n d b lt le e f =
    let here : is_ground_place (get_or (reverse stack) i d) ≡ false = sym (place_read stack i d b (omega arith) e) ∙ f in
    let taken : is_ground_place (get_or (take n (reverse stack)) i d) ≡ false = ap is_ground_place (get_or-take n (reverse stack) i d lt) ∙ here in
    sym (list_all_at is_ground_place (take n (reverse stack)) i d (omega (arith, length-take n (reverse stack), length-reverse stack)) taken)
