-- Goals that unify a term with the list of others, as the end of a findall makes them (ISO/IEC 13211-1, 8.10.1).
use Rattle.std.specs.Prelude.{◌≡◌, List, codes}
use Rattle.au_term.specs.Term.{Term, more}
use Rattle.au_model.specs.Terms.Forms.{binary, list_term}
use Rattle.clause_compile.specs.Places.{CodeView, Keeps, ArePlacesOf, meanings}
use Rattle.clause_compile.specs.declared.place.Place.{Place}

abbrev pub list_goal : Term → List Term → Term
list_goal t ts = binary (codes "=") t (list_term ts)

-- the place of a term came on top of those that wait
pub record AddsTerm (old new : CodeView) (t : Term) (before after : List Place) : Type 0 where
  pub keeps : Keeps old new
  pub stand : ArePlacesOf new after
  pub means : meanings new after ≡ more t (meanings old before)
