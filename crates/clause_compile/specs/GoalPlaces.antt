-- Where the goals of a body are.
use Rattle.std.specs.Prelude.{◌≡◌, ℕ, ◌<◌, ◌≤◌, List, [], ◌++◌, map, length, drop}
use Rattle.au_term.specs.Term.{Term, Terms, end, more}
use Rattle.au_term.specs.PrefixOrder.{cells_of, terms_of, subterm}
use Rattle.au_term.specs.Shifted.{IsShiftablePlace}
use Rattle.au_model.specs.Terms.Each.{Each}
use Rattle.run_model.specs.Programs.Bodies.{goals_of}

-- the subterms at these places
abbrev pub subterms_at : Term → List ℕ → List Term
subterms_at t places = map (λ at. subterm at t) places

-- these are the goals, each at its place
pub record AreGoalsAt (t : Term) (places : List ℕ) (goals : List Term) : Type 0 where
  pub within : Each (λ at. at < length (cells_of t)) places
  pub are : subterms_at t places ≡ goals

-- the goals of bodies, one after another
abbrev pub goals_of_all : Terms → List Term
goals_of_all end = []
goals_of_all (more t ts) = goals_of t ++ goals_of_all ts

-- a place was passed: the goals that were found and those after it are the same as before
pub record PassesGoal (t : Term) (at next : ℕ) (places now : List ℕ) : Type 0 where
  pub forward : at < next
  pub within : next ≤ length (cells_of t)
  pub placed : Each (λ i. i < length (cells_of t)) places → Each (λ i. i < length (cells_of t)) now
  pub same : subterms_at t now ++ goals_of_all (terms_of (drop next (cells_of t))) ≡ subterms_at t places ++ goals_of_all (terms_of (drop at (cells_of t)))

-- each is a place whose subterm's variables can be shifted by this
abbrev pub ArePlaces : Term → ℕ → List ℕ → Type 0
ArePlaces t base places = Each (λ at. IsShiftablePlace t at base) places
