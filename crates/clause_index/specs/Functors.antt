-- The compound at a place of a program's text.
use Rattle.std.specs.Prelude.{◌≡◌, ℕ, ◌+◌, ◌<◌, ◌≤◌, List, length, map, take, drop}
use Rattle.au_term.specs.Term.{Compound}
use Rattle.au_model.specs.Terms.Each.{Each}
use Rattle.au_model.specs.Terms.Lists.{terms_from}
use Rattle.clause_compile.specs.AtomNumbers.{name_at}
use Rattle.clause_compile.specs.Places.{CodeView, meaning_in, IsPlaceBefore}
use Rattle.clause_compile.specs.declared.place.Place.{Place}
use Rattle.clause_compile.specs.declared.place.Place.TheVariants.{Sub}

-- the places after a functor's
abbrev pub places_after : CodeView → ℕ → List Place
places_after c at = drop (at + 1) c.places

-- a compound's name, by its number, and how many places after the functor's are its arguments
pub record IsFunctorAt (c : CodeView) (at f n : ℕ) : Type 0 where
  pub named : f < length c.names
  pub some : 0 < n
  pub enough : n ≤ length (places_after c at)
  pub before : Each (IsPlaceBefore (length c.names) c.places at) (take n (places_after c at))
  pub within : at < length c.places
  pub meaning : meaning_in c (Sub at) ≡ Compound (name_at c.names f) (terms_from (map (meaning_in c) (take n (places_after c at))))
