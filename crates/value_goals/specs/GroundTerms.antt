-- Terms without variables, one after another.
use Rattle.std.specs.Prelude.{◌≡◌, ◌+◌, ◌<◌, ◌&&◌, Bool, true, false, List, [], ◌∷◌}
use Rattle.au_term.specs.Term.{Term}
use Rattle.au_model.specs.Terms.Unifier.{size}
use Rattle.run_model.specs.Goals.TermTests.{is_ground}
use Rattle.cell_store.specs.Arguments.{AllThere, pending_terms, resolved_terms, sizes}
use Rattle.cell_store.specs.StoreView.{StoreView, substitution, text_in}
use Rattle.cell_store.specs.declared.arguments.Arguments.{Arguments}

abbrev pub are_ground : List Term → Bool
are_ground [] = true
are_ground (t ∷ ts) = is_ground t && are_ground ts

-- what is pending stands for these
abbrev pub terms_left : StoreView → List Arguments → List Term
terms_left st pending = resolved_terms (substitution st) (pending_terms (text_in st) pending)

-- a value has no variables but those of its arguments, which come on top
pub record GoesPast (st : StoreView) (t : Term) (old new : List Arguments) : Type 0 where
  pub same : are_ground (terms_left st new) ≡ (is_ground t && are_ground (terms_left st old))
  pub fewer : sizes (terms_left st new) < size t + sizes (terms_left st old)
  pub there : AllThere (text_in st) st.now.next old → AllThere (text_in st) st.now.next new

-- or it is a variable
abbrev pub GoesPastOr : StoreView → Term → List Arguments → List Arguments → Bool → Type 0
GoesPastOr st t old new true = GoesPast st t old new
GoesPastOr st t old new false = is_ground t ≡ false
