-- Worked rows: texts of numbers.
use Rattle.std.specs.Prelude.{◌≡◌, pos, negsuc, [], ◌∷◌, codes, Some, None, refl, Err}
use Rattle.au_term.specs.Term.{Term, IntTerm}
use Rattle.std.specs.Fmt.{digits}
use Rattle.au_model.specs.Syntax.Layout.{after_layout}
use Rattle.au_model.specs.Syntax.Numerals.{numeral}
use Rattle.au_model.specs.Terms.Forms.{binary, list_term}
use Rattle.au_model.specs.Terms.ErrorTerms.{instantiation_error, type_error, representation_error, syntax_error}
use Rattle.run_model.specs.Goals.BuiltinAnswers.{equal}
use Rattle.run_model.specs.Goals.AtomGoals.{ByCharacters, ByCodes}
use Rattle.run_model.specs.Goals.NumberTexts.{number_in_text, number_text_answer}
use Rattle.run_model.proofs.RowTerms.{atom, int, X, Y}

read : (number_in_text (codes " 12") ≡ Some (pos 12)) × (number_in_text (codes "-3") ≡ Some (negsuc 2)) × (number_in_text (codes "/* a */ 0x1f") ≡ Some (pos 31)) × (number_in_text (codes "0'a") ≡ Some (pos 97)) × (number_in_text (codes "-9223372036854775808") ≡ Some (negsuc 9223372036854775807))
unfolding after_layout numeral
read = (refl, refl, refl, refl, refl)

refused : (number_in_text (codes "12 ") ≡ None) × (number_in_text (codes "- 3") ≡ None) × (number_in_text (codes "1.5") ≡ None) × (number_in_text (codes "9223372036854775808") ≡ None) × (number_in_text (codes "a") ≡ None) × (number_in_text [] ≡ None) × (number_in_text (codes "+3") ≡ None)
unfolding after_layout numeral
refused = (refl, refl, refl, refl, refl, refl, refl)

abbrev cell : Term → Term → Term
cell a b = binary (codes ".") a b

abbrev nil : Term
nil = atom (codes "[]")

texts : (number_text_answer ByCodes X (cell (int 52) (cell (int 50) nil)) ≡ equal X (int 42))
    × (number_text_answer ByCharacters (IntTerm (negsuc 6)) X ≡ equal X (list_term (atom (codes "-") ∷ atom (codes "7") ∷ [])))
    × (number_text_answer ByCharacters (int 7) (cell X nil) ≡ equal (cell X nil) (list_term (atom (codes "7") ∷ [])))
    × (number_text_answer ByCodes X (atom (codes "foo")) ≡ Err instantiation_error)
    × (number_text_answer ByCodes X (cell Y nil) ≡ Err instantiation_error)
    × (number_text_answer ByCodes (int 1) (atom (codes "foo")) ≡ Err (type_error (codes "list") (atom (codes "foo"))))
    × (number_text_answer ByCodes (atom (codes "a")) (atom (codes "foo")) ≡ Err (type_error (codes "integer") (atom (codes "a"))))
    × (number_text_answer ByCharacters X (cell (int 1) nil) ≡ Err (type_error (codes "character") (int 1)))
    × (number_text_answer ByCodes X (cell (IntTerm (negsuc 0)) nil) ≡ Err (representation_error (codes "character_code")))
    × (number_text_answer ByCharacters X (cell (atom (codes "x")) nil) ≡ Err (syntax_error (codes "illegal_number")))
unfolding after_layout numeral digits
texts = (refl, refl, refl, refl, refl, refl, refl, refl, refl, refl)
