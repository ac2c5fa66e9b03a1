-- Lists as goals read them, and arguments as a list.
pub use Rattle.au_model.specs.Terms.ListForms.{ListForm, ProperList, PartialList, NoList, item_before, list_form}
use Rattle.std.specs.Prelude.{List, [], ◌∷◌}
use Rattle.au_term.specs.Term.{Term, Terms, end, more}

-- the arguments as a list
abbrev pub items_of : Terms → List Term
items_of end = []
items_of (more t ts) = t ∷ items_of ts
