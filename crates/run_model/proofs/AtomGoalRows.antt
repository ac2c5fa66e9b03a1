-- Worked rows: goals on the characters of atoms.
use Rattle.std.specs.Prelude.{◌≡◌, negsuc, [], ◌∷◌, codes, refl, Err}
use Rattle.au_term.specs.Term.{Term, IntTerm, AtomTerm}
use Rattle.au_model.specs.Terms.Forms.{binary, list_term}
use Rattle.au_model.specs.Terms.ErrorTerms.{instantiation_error, type_error, domain_error, representation_error}
use Rattle.run_model.specs.Goals.BuiltinAnswers.{equal}
use Rattle.run_model.specs.Goals.AtomGoals.{ByCharacters, ByCodes, atom_length_answer, char_code_answer, spelling_answer}
use Rattle.run_model.proofs.RowTerms.{atom, int, X, Y}

abbrev cell : Term → Term → Term
cell a b = binary (codes ".") a b

abbrev nil : Term
nil = atom (codes "[]")

abbrev minus_one : Term
minus_one = IntTerm (negsuc 0)

-- atom_length(A, N): é, whose code is 233, is one character
lengths : (atom_length_answer (AtomTerm (233 ∷ 98 ∷ [])) X ≡ equal X (int 2))
    × (atom_length_answer (atom []) (int 3) ≡ equal (int 3) (int 0))
    × (atom_length_answer X (atom (codes "a")) ≡ Err instantiation_error)
    × (atom_length_answer (int 12) X ≡ Err (type_error (codes "atom") (int 12)))
    × (atom_length_answer (atom (codes "a")) (atom (codes "b")) ≡ Err (type_error (codes "integer") (atom (codes "b"))))
    × (atom_length_answer (atom (codes "a")) minus_one ≡ Err (domain_error (codes "not_less_than_zero") minus_one))
lengths = (refl, refl, refl, refl, refl, refl)

-- char_code(C, N)
coded : (char_code_answer (atom (codes "a")) X ≡ equal X (int 97))
    × (char_code_answer X (int 233) ≡ equal X (AtomTerm (233 ∷ [])))
    × (char_code_answer (atom (codes "a")) (int 98) ≡ equal (atom (codes "a")) (atom (codes "b")))
    × (char_code_answer X Y ≡ Err instantiation_error)
    × (char_code_answer (atom (codes "ab")) Y ≡ Err (type_error (codes "character") (atom (codes "ab"))))
    × (char_code_answer (atom []) (atom (codes "x")) ≡ Err (type_error (codes "character") (atom [])))
    × (char_code_answer X (atom (codes "x")) ≡ Err (type_error (codes "integer") (atom (codes "x"))))
    × (char_code_answer X (int 55296) ≡ Err (representation_error (codes "character_code")))
    × (char_code_answer X (int 1114112) ≡ Err (representation_error (codes "character_code")))
    × (char_code_answer X minus_one ≡ Err (representation_error (codes "character_code")))
coded = (refl, refl, refl, refl, refl, refl, refl, refl, refl, refl)

-- atom_chars(A, L)
by_characters : (spelling_answer ByCharacters (atom (codes "ab")) X ≡ equal X (list_term (atom (codes "a") ∷ atom (codes "b") ∷ [])))
    × (spelling_answer ByCharacters X (cell (atom (codes "1")) (cell (atom (codes "a")) nil)) ≡ equal X (atom (codes "1a")))
    × (spelling_answer ByCharacters X nil ≡ equal X (atom []))
    × (spelling_answer ByCharacters (int 1) X ≡ Err (type_error (codes "atom") (int 1)))
    × (spelling_answer ByCharacters X (cell (atom (codes "a")) Y) ≡ Err instantiation_error)
    × (spelling_answer ByCharacters X (cell (int 1) (cell Y nil)) ≡ Err instantiation_error)
    × (spelling_answer ByCharacters X (cell Y (atom (codes "b"))) ≡ Err (type_error (codes "list") (cell Y (atom (codes "b")))))
    × (spelling_answer ByCharacters X (cell (atom (codes "a")) (cell (int 1) nil)) ≡ Err (type_error (codes "character") (int 1)))
by_characters = (refl, refl, refl, refl, refl, refl, refl, refl)

-- atom_codes(A, L): an item that is no integer goes before one that is no code
by_codes : (spelling_answer ByCodes (AtomTerm (233 ∷ [])) X ≡ equal X (list_term (int 233 ∷ [])))
    × (spelling_answer ByCodes X (cell (int 97) nil) ≡ equal X (atom (codes "a")))
    × (spelling_answer ByCodes X (cell minus_one (cell (atom (codes "a")) nil)) ≡ Err (type_error (codes "integer") (atom (codes "a"))))
    × (spelling_answer ByCodes X (cell minus_one nil) ≡ Err (representation_error (codes "character_code")))
by_codes = (refl, refl, refl, refl)
