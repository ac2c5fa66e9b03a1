-- Worked rows: goals that tell, compare, make and take apart terms.
use Rattle.std.specs.Prelude.{◌≡◌, true, false, negsuc, [], ◌∷◌, codes, refl, Ok, Err, None}
use Rattle.std.specs.declared.cmp.Ordering.TheVariants.{Less, Equal}
use Rattle.au_term.specs.Term.{Term, VarTerm, IntTerm, Compound, end, more}
use Rattle.au_model.specs.Terms.Forms.{unary, binary, list_term}
use Rattle.au_model.specs.Terms.ErrorTerms.{instantiation_error, type_error, domain_error, representation_error}
use Rattle.run_model.specs.Goals.BuiltinAnswers.{equal, one_solution}
use Rattle.run_model.specs.Goals.ArithmeticGoals.{is_answer}
use Rattle.run_model.specs.Goals.StandardOrder.{order}
use Rattle.run_model.specs.Goals.TermTests.{is_ground, is_atomic, compare_answer}
use Rattle.run_model.specs.Goals.TermParts.{functor_answer, argument_answer, parts_answer, copy_answer}
use Rattle.run_model.proofs.RowTerms.{atom, int, X, Y, Z}

abbrev f : Term → Term
f t = unary (codes "f") t

-- variables, integers, atoms by codes and not by length, compounds by number of arguments, name, arguments
in_order : (order X Y ≡ Less) × (order Y (int 0) ≡ Less) × (order (IntTerm (negsuc 0)) (int 0) ≡ Less) × (order (int 5) (atom (codes "a")) ≡ Less) × (order (atom (codes "ab")) (atom (codes "b")) ≡ Less) × (order (atom []) (atom (codes "a")) ≡ Less)
    × (order (atom (codes "z")) (f (int 0)) ≡ Less) × (order (unary (codes "z") X) (binary (codes "a") X X) ≡ Less) × (order (unary (codes "a") Y) (unary (codes "b") X) ≡ Less) × (order (binary (codes "f") X (int 2)) (binary (codes "f") (int 1) X) ≡ Less) × (order (f X) (f X) ≡ Equal)
in_order = (refl, refl, refl, refl, refl, refl, refl, refl, refl, refl, refl)

compared : (compare_answer X (int 1) (int 2) ≡ equal X (atom (codes "<"))) × (compare_answer (atom (codes "x")) X Y ≡ Err (domain_error (codes "order") (atom (codes "x")))) × (compare_answer (int 1) X Y ≡ Err (type_error (codes "atom") (int 1)))
compared = (refl, refl, refl)

told : (is_ground (f (atom (codes "a"))) ≡ true) × (is_ground (f X) ≡ false) × (is_atomic (int 1) ≡ true)
told = (refl, refl, refl)

functors : (functor_answer (f X) Y Z 5 ≡ one_solution ((Y, atom (codes "f")) ∷ (Z, int 1) ∷ []))
    × (functor_answer (int 7) Y Z 5 ≡ one_solution ((Y, int 7) ∷ (Z, int 0) ∷ []))
    × (functor_answer X (atom (codes "g")) (int 2) 5 ≡ Ok (record { equations = (X, binary (codes "g") (VarTerm 5) (VarTerm 6)) ∷ []; goals = []; removes = None; variables = 2 } ∷ []))
    × (functor_answer X (int 7) (int 0) 5 ≡ equal X (int 7))
    × (functor_answer X Y (int 1) 5 ≡ Err instantiation_error)
    × (functor_answer X (f Y) Z 5 ≡ Err instantiation_error)
    × (functor_answer X (f Y) (int 0) 5 ≡ Err (type_error (codes "atomic") (f Y)))
    × (functor_answer X (atom (codes "g")) (atom (codes "a")) 5 ≡ Err (type_error (codes "integer") (atom (codes "a"))))
    × (functor_answer X (atom (codes "g")) (IntTerm (negsuc 0)) 5 ≡ Err (domain_error (codes "not_less_than_zero") (IntTerm (negsuc 0))))
    × (functor_answer X (atom (codes "g")) (int 65536) 5 ≡ Err (representation_error (codes "max_arity")))
    × (functor_answer X (int 7) (int 1) 5 ≡ Err (type_error (codes "atom") (int 7)))
functors = (refl, refl, refl, refl, refl, refl, refl, refl, refl, refl, refl)

parts : (argument_answer (int 2) (binary (codes "g") X Y) Z ≡ equal Z Y)
    × (argument_answer (int 0) (f X) Z ≡ Ok [])
    × (argument_answer (int 2) (f X) Z ≡ Ok [])
    × (argument_answer X (f X) Z ≡ Err instantiation_error)
    × (argument_answer (int 1) X Z ≡ Err instantiation_error)
    × (argument_answer (atom (codes "a")) (int 3) Z ≡ Err (type_error (codes "integer") (atom (codes "a"))))
    × (argument_answer (IntTerm (negsuc 0)) (int 3) Z ≡ Err (type_error (codes "compound") (int 3)))
    × (argument_answer (IntTerm (negsuc 0)) (f X) Z ≡ Err (domain_error (codes "not_less_than_zero") (IntTerm (negsuc 0))))
parts = (refl, refl, refl, refl, refl, refl, refl, refl)

abbrev cell : Term → Term → Term
cell a b = binary (codes ".") a b

abbrev nil : Term
nil = atom (codes "[]")

univs : (parts_answer (f X) Y ≡ equal Y (list_term (atom (codes "f") ∷ X ∷ [])))
    × (parts_answer (int 3) Y ≡ equal Y (list_term (int 3 ∷ [])))
    × (parts_answer X (cell (atom (codes "g")) (cell Y nil)) ≡ equal X (unary (codes "g") Y))
    × (parts_answer X (cell (int 4) nil) ≡ equal X (int 4))
    × (parts_answer X (cell (atom (codes "f")) Y) ≡ Err instantiation_error)
    × (parts_answer X (cell (atom (codes "f")) (int 1)) ≡ Err (type_error (codes "list") (cell (atom (codes "f")) (int 1))))
    × (parts_answer (f X) (int 1) ≡ Err (type_error (codes "list") (int 1)))
    × (parts_answer X nil ≡ Err (domain_error (codes "non_empty_list") nil))
    × (parts_answer X (cell Y nil) ≡ Err instantiation_error)
    × (parts_answer X (cell (int 1) (cell (int 2) nil)) ≡ Err (type_error (codes "atom") (int 1)))
    × (parts_answer X (cell (f Y) nil) ≡ Err (type_error (codes "atomic") (f Y)))
univs = (refl, refl, refl, refl, refl, refl, refl, refl, refl, refl, refl)

-- copy_term(f(X, Y, X), Z) at the next number 3
copies : copy_answer (Compound (codes "f") (more X (more Y (more X end)))) Z 3 ≡ Ok (record { equations = (Z, Compound (codes "f") (more (VarTerm 3) (more (VarTerm 4) (more (VarTerm 3) end)))) ∷ []; goals = []; removes = None; variables = 2 } ∷ [])
copies = refl

-- X is 1 // 0
computed : is_answer X (binary (codes "+") (int 1) (int 2)) ≡ equal X (int 3)
computed = refl
