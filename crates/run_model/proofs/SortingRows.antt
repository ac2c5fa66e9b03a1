-- Worked rows: sorted lists.
use Rattle.std.specs.Prelude.{◌≡◌, [], ◌∷◌, codes, refl, Err}
use Rattle.au_term.specs.Term.{Term}
use Rattle.au_model.specs.Terms.Forms.{binary, list_term}
use Rattle.au_model.specs.Terms.ErrorTerms.{instantiation_error, type_error}
use Rattle.run_model.specs.Goals.BuiltinAnswers.{equal}
use Rattle.run_model.specs.Goals.Sorting.{sort_answer, keysort_answer}
use Rattle.run_model.proofs.RowTerms.{atom, int, X, Y}

abbrev a : Term
a = atom (codes "a")

abbrev b : Term
b = atom (codes "b")

abbrev pair : Term → Term → Term
pair k v = binary (codes "-") k v

abbrev partial : Term
partial = binary (codes ".") a X

sorts : (sort_answer (list_term (b ∷ int 1 ∷ a ∷ b ∷ Y ∷ [])) X ≡ equal X (list_term (Y ∷ int 1 ∷ a ∷ b ∷ [])))
    × (sort_answer (list_term []) X ≡ equal X (list_term []))
    × (sort_answer (list_term (a ∷ [])) partial ≡ equal partial (list_term (a ∷ [])))
    × (sort_answer partial X ≡ Err instantiation_error)
    × (sort_answer a X ≡ Err (type_error (codes "list") a))
    × (sort_answer (list_term (a ∷ [])) b ≡ Err (type_error (codes "list") b))
sorts = (refl, refl, refl, refl, refl, refl)

-- pairs with the same key keep their order
keysorts : (keysort_answer (list_term (pair (int 2) a ∷ pair (int 1) b ∷ pair (int 2) (int 0) ∷ [])) X ≡ equal X (list_term (pair (int 1) b ∷ pair (int 2) a ∷ pair (int 2) (int 0) ∷ [])))
    × (keysort_answer (list_term (pair a a ∷ b ∷ Y ∷ [])) X ≡ Err (type_error (codes "pair") b))
    × (keysort_answer (list_term (pair a a ∷ Y ∷ b ∷ [])) X ≡ Err instantiation_error)
    × (keysort_answer (list_term (b ∷ [])) a ≡ Err (type_error (codes "list") a))
    × (keysort_answer partial X ≡ Err instantiation_error)
    × (keysort_answer b X ≡ Err (type_error (codes "list") b))
keysorts = (refl, refl, refl, refl, refl, refl)
