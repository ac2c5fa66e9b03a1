-- Worked rows: atoms put together and taken apart.
use Rattle.std.specs.Prelude.{◌≡◌, ℕ, List, negsuc, [], ◌∷◌, codes, refl, Ok, Err}
use Rattle.au_term.specs.Term.{Term, IntTerm}
use Rattle.au_model.specs.Terms.ErrorTerms.{instantiation_error, type_error, domain_error}
use Rattle.run_model.specs.Goals.Outcomes.{Solution}
use Rattle.run_model.specs.Goals.BuiltinAnswers.{equal}
use Rattle.run_model.specs.Goals.AtomParts.{atom_concat_answer, sub_atom_answer, split_solution, part_solution, PartArguments}
use Rattle.run_model.proofs.RowTerms.{atom, int, X, Y}

abbrev minus_one : Term
minus_one = IntTerm (negsuc 0)

abbrev split : Term → Term → List ℕ → List ℕ → Solution
split a b first second = split_solution a b (first, second)

-- atom_concat(A, B, C): two atoms; all parts, by growing first part; the parts that fit
concatenations : (atom_concat_answer (atom (codes "ab")) (atom (codes "c")) X ≡ equal X (atom (codes "abc")))
    × (atom_concat_answer (atom []) (atom []) (atom (codes "a")) ≡ equal (atom (codes "a")) (atom []))
    × (atom_concat_answer X Y (atom (codes "ab")) ≡ Ok (split X Y [] (codes "ab") ∷ split X Y (codes "a") (codes "b") ∷ split X Y (codes "ab") [] ∷ []))
    × (atom_concat_answer (atom (codes "a")) Y (atom (codes "ab")) ≡ Ok (split (atom (codes "a")) Y (codes "a") (codes "b") ∷ []))
    × (atom_concat_answer X (atom (codes "b")) (atom (codes "ab")) ≡ Ok (split X (atom (codes "b")) (codes "a") (codes "b") ∷ []))
    × (atom_concat_answer X (atom (codes "a")) (atom (codes "ab")) ≡ Ok [])
    × (atom_concat_answer X Y X ≡ Err instantiation_error)
    × (atom_concat_answer (atom (codes "a")) Y X ≡ Err instantiation_error)
    × (atom_concat_answer (int 1) Y X ≡ Err instantiation_error)
    × (atom_concat_answer (atom (codes "a")) (int 1) X ≡ Err (type_error (codes "atom") (int 1)))
    × (atom_concat_answer X Y (int 1) ≡ Err (type_error (codes "atom") (int 1)))
concatenations = (refl, refl, refl, refl, refl, refl, refl, refl, refl, refl, refl)

-- sub_atom(A, B, L, E, S)
abbrev asked : Term → Term → Term → Term → PartArguments
asked b l e s = record { before = b; length = l; after = e; text = s }

abbrev found : PartArguments → ℕ → ℕ → ℕ → List ℕ → Solution
found asked b l e s = part_solution asked (record { before = b; length = l; after = e; text = s })

abbrev all : PartArguments
all = asked X Y X Y

abbrev of_a : PartArguments
of_a = asked X Y X (atom (codes "a"))

abbrev of_two : PartArguments
of_two = asked X (int 2) Y Y

abbrev at_one : PartArguments
at_one = asked (int 1) X (int 0) Y

-- all parts of `ab`, by what is before them and then by length; the places of a part, which may overlap others; parts
-- of a length; what is after a place
parts : (sub_atom_answer (atom (codes "ab")) all ≡ Ok (found all 0 0 2 [] ∷ found all 0 1 1 (codes "a") ∷ found all 0 2 0 (codes "ab") ∷ found all 1 0 1 [] ∷ found all 1 1 0 (codes "b") ∷ found all 2 0 0 [] ∷ []))
    × (sub_atom_answer (atom (codes "aba")) of_a ≡ Ok (found of_a 0 1 2 (codes "a") ∷ found of_a 2 1 0 (codes "a") ∷ []))
    × (sub_atom_answer (atom (codes "aba")) of_two ≡ Ok (found of_two 0 2 1 (codes "ab") ∷ found of_two 1 2 0 (codes "ba") ∷ []))
    × (sub_atom_answer (atom (codes "aba")) at_one ≡ Ok (found at_one 1 2 0 (codes "ba") ∷ []))
    × (sub_atom_answer (atom (codes "a")) (asked X (int 2) Y Y) ≡ Ok [])
parts = (refl, refl, refl, refl, refl)

-- its errors: A, then S, then the numbers, of which each is tested for its type before any for its sign
part_errors : (sub_atom_answer X (asked X X X (int 1)) ≡ Err instantiation_error)
    × (sub_atom_answer (int 1) (asked X X X (int 2)) ≡ Err (type_error (codes "atom") (int 1)))
    × (sub_atom_answer (atom []) (asked (atom (codes "b")) X X (int 2)) ≡ Err (type_error (codes "atom") (int 2)))
    × (sub_atom_answer (atom []) (asked minus_one (atom (codes "l")) X Y) ≡ Err (type_error (codes "integer") (atom (codes "l"))))
    × (sub_atom_answer (atom []) (asked X minus_one X Y) ≡ Err (domain_error (codes "not_less_than_zero") minus_one))
part_errors = (refl, refl, refl, refl, refl)
