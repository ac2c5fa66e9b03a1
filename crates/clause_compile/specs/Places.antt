-- Terms as places: a compound is its functor's place, followed by one place for each argument.
use Rattle.std.specs.Prelude.{◌≡◌, ℕ, zero, suc, ◌<◌, ◌≤◌, Bool, true, false, if◌then◌else◌, List, [], ◌∷◌, ◌++◌, length, map, take, drop, reverse}
use Rattle.std.specs.List.{list_all}
use Rattle.au_term.specs.Term.{Term, VarTerm, IntTerm, AtomTerm, Compound, Terms}
use Rattle.au_term.specs.PrefixOrder.{with_cell}
use Rattle.au_term.specs.declared.cell.Cell.{Cell}
use Rattle.au_model.specs.Terms.Each.{Each}
use Rattle.au_model.specs.Terms.Lists.{terms_from}
use Rattle.clause_compile.specs.AtomNumbers.{name_at}
use Rattle.clause_compile.specs.declared.place.Place.{Place}
use Rattle.clause_compile.specs.declared.place.Place.TheVariants.{Functor, Var, Int, Atom, Sub, Ground}

-- what a place means, by what its compounds mean
abbrev pub place_meaning : List (List ℕ) → (ℕ → Term) → Place → Term
place_meaning names compound (Functor f n) = VarTerm 0
place_meaning names compound (Var v) = VarTerm v
place_meaning names compound (Int z) = IntTerm z
place_meaning names compound (Atom a) = AtomTerm (name_at names a)
place_meaning names compound (Sub at) = compound at
place_meaning names compound (Ground at) = compound at

-- the compound whose functor's place is the first
abbrev pub compound_here : List (List ℕ) → (ℕ → Term) → List Place → Term
compound_here names compound [] = VarTerm 0
compound_here names compound (Functor f n ∷ ps) = Compound (name_at names f) (terms_from (map (place_meaning names compound) (take n ps)))
compound_here names compound (p ∷ ps) = VarTerm 0

-- the compound at a place, by compounds inside one another to a depth
abbrev pub compound_to : ℕ → List (List ℕ) → List Place → ℕ → Term
compound_to zero names places at = VarTerm 0
compound_to (suc n) names places at = compound_here names (compound_to n names places) (drop at places)

-- the term that a place means: a compound stands before all that hold it
abbrev pub meaning_of : List (List ℕ) → List Place → Place → Term
meaning_of names places p = place_meaning names (compound_to (length places) names places) p

-- a functor's place with a name that has a number is the first, and so many places follow
abbrev pub BeginsCompound : ℕ → List Place → Type 0
BeginsCompound k [] = ⊥
BeginsCompound k (Functor f n ∷ ps) = (f < k) × (n ≤ length ps)
BeginsCompound k (p ∷ ps) = ⊥

-- a place that says that its term has no variables
abbrev pub is_ground_place : Place → Bool
is_ground_place (Functor f n) = false
is_ground_place (Var v) = false
is_ground_place (Int z) = true
is_ground_place (Atom a) = true
is_ground_place (Sub at) = false
is_ground_place (Ground at) = true

-- the arguments of the compound that begins here have no variables
abbrev pub BeginsGround : List Place → Type 0
BeginsGround [] = ⊥
BeginsGround (Functor f n ∷ ps) = list_all is_ground_place (take n ps) ≡ true
BeginsGround (p ∷ ps) = ⊥

-- the place of a compound with these arguments
abbrev pub compound_place : ℕ → List Place → Place
compound_place at args = if list_all is_ground_place args then Ground at else Sub at

-- names have numbers below k, and a compound stands before this place
abbrev pub IsPlaceBefore : ℕ → List Place → ℕ → Place → Type 0
IsPlaceBefore k places at (Functor f n) = ⊥
IsPlaceBefore k places at (Var v) = Unit {0}
IsPlaceBefore k places at (Int z) = Unit {0}
IsPlaceBefore k places at (Atom a) = a < k
IsPlaceBefore k places at (Sub i) = (i < at) × BeginsCompound k (drop i places)
IsPlaceBefore k places at (Ground i) = (i < at) × BeginsCompound k (drop i places) × BeginsGround (drop i places)

-- how many arguments a compound may have
abbrev pub IsArity : ℕ → Type 0
IsArity n = (0 < n) × (n ≤ 65535)

-- the arguments of the compound that begins here stand before it
abbrev pub StandBefore : ℕ → List Place → ℕ → List Place → Type 0
StandBefore k places at [] = Unit {0}
StandBefore k places at (Functor f n ∷ ps) = (n ≤ length ps) × Each (IsPlaceBefore k places at) (take n ps) × IsArity n
StandBefore k places at (p ∷ ps) = Unit {0}

-- each compound's arguments stand before it
abbrev pub AreSound : ℕ → List Place → Type 0
AreSound k places = (at : ℕ) → StandBefore k places at (drop at places)

-- names and places
pub record CodeView : Type 0 where
  pub names : List (List ℕ)
  pub places : List Place

-- a place of the text
abbrev pub IsPlaceOf : CodeView → Place → Type 0
IsPlaceOf c p = IsPlaceBefore (length c.names) c.places (length c.places) p

abbrev pub meaning_in : CodeView → Place → Term
meaning_in c p = meaning_of c.names c.places p

-- text was added: places that were there are there and mean the same
pub record Keeps (old new : CodeView) : Type 0 where
  pub names : List (List ℕ)
  pub names_are : new.names ≡ old.names ++ names
  pub places : List Place
  pub places_are : new.places ≡ old.places ++ places
  pub same : (p : Place) → IsPlaceOf old p → IsPlaceOf new p × (meaning_in new p ≡ meaning_in old p)

-- a place that means a term was added
pub record IsPlaced (old new : CodeView) (t : Term) (p : Place) : Type 0 where
  pub keeps : Keeps old new
  pub there : IsPlaceOf new p
  pub means : meaning_in new p ≡ t

-- places that wait for the compound that they are arguments of, the first on top
abbrev pub meanings : CodeView → List Place → Terms
meanings c stack = terms_from (map (meaning_in c) (reverse stack))

abbrev pub ArePlacesOf : CodeView → List Place → Type 0
ArePlacesOf c stack = Each (IsPlaceOf c) (reverse stack)

-- a cell was added before those that its arguments took: with them it is the first of what the places mean
pub record AddsCell (old new : CodeView) (c : Cell) (before after : List Place) : Type 0 where
  pub keeps : Keeps old new
  pub stand : ArePlacesOf new after
  pub means : meanings new after ≡ with_cell c (meanings old before)

-- further places were added
pub record HasMorePlaces (old new : List Place) : Type 0 where
  pub more : List Place
  pub is : new ≡ old ++ more

-- places that mean terms, one for each, were added
pub record AreAllPlaced (old new : CodeView) (ts : List Term) (ps : List Place) : Type 0 where
  pub keeps : Keeps old new
  pub there : Each (IsPlaceOf new) ps
  pub mean : map (meaning_in new) ps ≡ ts
