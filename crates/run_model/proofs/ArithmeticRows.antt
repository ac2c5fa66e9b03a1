-- Worked rows: values of expressions.
use Rattle.std.specs.Prelude.{◌≡◌, ℕ, ℤ, pos, negsuc, List, codes, refl, Ok, Err}
use Rattle.au_term.specs.Term.{VarTerm, IntTerm, AtomTerm, Compound, end, more}
use Rattle.au_model.specs.Terms.Forms.{unary, binary, indicator}
use Rattle.au_model.specs.Terms.ErrorTerms.{instantiation_error, type_error}
use Rattle.run_model.specs.Goals.Arithmetic.{Evaluated, expression_value, overflow, zero_divisor, undefined}

abbrev two : List ℕ → ℤ → ℤ → Evaluated
two f x y = expression_value (binary f (IntTerm x) (IntTerm y))

abbrev one : List ℕ → ℤ → Evaluated
one f x = expression_value (unary f (IntTerm x))

abbrev least : ℤ
least = negsuc 9223372036854775807

abbrev greatest : ℤ
greatest = pos 9223372036854775807

sums : (two (codes "+") greatest (pos 1) ≡ overflow) × (two (codes "-") least (pos 1) ≡ overflow) × (two (codes "+") greatest least ≡ Ok (negsuc 0)) × (two (codes "*") (pos 4294967296) (pos 2147483648) ≡ overflow)
sums = (refl, refl, refl, refl)

mods : (two (codes "mod") (pos 7) (pos 2) ≡ Ok (pos 1)) × (two (codes "mod") (pos 7) (negsuc 1) ≡ Ok (negsuc 0)) × (two (codes "mod") (negsuc 6) (pos 2) ≡ Ok (pos 1)) × (two (codes "mod") (negsuc 6) (negsuc 1) ≡ Ok (negsuc 0)) × (two (codes "mod") (pos 6) (negsuc 2) ≡ Ok (pos 0)) × (two (codes "mod") least (negsuc 0) ≡ Ok (pos 0)) × (two (codes "mod") (pos 1) (pos 0) ≡ zero_divisor)
mods = (refl, refl, refl, refl, refl, refl, refl)

rems : (two (codes "rem") (pos 7) (negsuc 1) ≡ Ok (pos 1)) × (two (codes "rem") (negsuc 6) (pos 2) ≡ Ok (negsuc 0)) × (two (codes "rem") (negsuc 6) (negsuc 1) ≡ Ok (negsuc 0)) × (two (codes "rem") (pos 7) (pos 2) ≡ Ok (pos 1)) × (two (codes "rem") least (negsuc 0) ≡ Ok (pos 0)) × (two (codes "rem") (pos 1) (pos 0) ≡ zero_divisor)
rems = (refl, refl, refl, refl, refl, refl)

quotients : (two (codes "//") (negsuc 6) (pos 2) ≡ Ok (negsuc 2)) × (two (codes "//") least (negsuc 0) ≡ overflow) × (two (codes "//") (pos 1) (pos 0) ≡ zero_divisor) × (two (codes "/") (pos 7) (pos 2) ≡ undefined) × (two (codes "/") (negsuc 7) (pos 2) ≡ Ok (negsuc 3)) × (two (codes "/") (pos 0) (pos 0) ≡ zero_divisor)
quotients = (refl, refl, refl, refl, refl, refl)

powers : (two (codes "^") (pos 0) (pos 0) ≡ Ok (pos 1)) × (two (codes "**") (negsuc 0) (negsuc 2) ≡ Ok (negsuc 0)) × (two (codes "**") (pos 2) (negsuc 0) ≡ undefined) × (two (codes "^") (negsuc 1) (pos 63) ≡ Ok least) × (two (codes "^") (pos 2) (pos 63) ≡ overflow) × (two (codes "**") (pos 1) least ≡ Ok (pos 1))
powers = (refl, refl, refl, refl, refl, refl)

shifts : (two (codes "<<") (pos 1) (pos 62) ≡ Ok (pos 4611686018427387904)) × (two (codes "<<") (negsuc 0) (pos 63) ≡ Ok least) × (two (codes "<<") (pos 1) (pos 64) ≡ overflow) × (two (codes ">>") (negsuc 6) (pos 1) ≡ Ok (negsuc 3)) × (two (codes ">>") (pos 5) (negsuc 0) ≡ Ok (pos 10)) × (two (codes "<<") (pos 5) (negsuc 1) ≡ Ok (pos 1))
shifts = (refl, refl, refl, refl, refl, refl)

-- by 63 and 64 places
far_shifts : (two (codes "<<") (pos 1) (pos 63) ≡ overflow) × (two (codes ">>") (pos 5) (pos 63) ≡ Ok (pos 0)) × (two (codes ">>") (negsuc 4) (pos 64) ≡ Ok (negsuc 0)) × (two (codes ">>") least (pos 63) ≡ Ok (negsuc 0)) × (two (codes "<<") (pos 5) (negsuc 0) ≡ Ok (pos 2))
far_shifts = (refl, refl, refl, refl, refl)

bits : (two (codes "/\\") (negsuc 3) (pos 6) ≡ Ok (pos 4)) × (two (codes "\\/") (negsuc 3) (pos 1) ≡ Ok (negsuc 2)) × (one (codes "\\") (pos 5) ≡ Ok (negsuc 5))
bits = (refl, refl, refl)

others : (one (codes "-") least ≡ overflow) × (one (codes "abs") least ≡ overflow) × (one (codes "abs") (negsuc 2) ≡ Ok (pos 3)) × (one (codes "sign") (negsuc 6) ≡ Ok (negsuc 0)) × (two (codes "min") (negsuc 2) (pos 2) ≡ Ok (negsuc 2)) × (two (codes "max") (negsuc 2) (pos 2) ≡ Ok (pos 2))
others = (refl, refl, refl, refl, refl, refl)

-- X + foo; foo + X; foo(X); 1 // 0 + foo; f(1, 2, 3)
errors : (expression_value (binary (codes "+") (VarTerm 0) (AtomTerm (codes "foo"))) ≡ Err instantiation_error)
    × (expression_value (binary (codes "+") (AtomTerm (codes "foo")) (VarTerm 0)) ≡ Err (type_error (codes "evaluable") (indicator (codes "foo") 0)))
    × (expression_value (unary (codes "foo") (VarTerm 0)) ≡ Err (type_error (codes "evaluable") (indicator (codes "foo") 1)))
    × (expression_value (binary (codes "+") (binary (codes "//") (IntTerm (pos 1)) (IntTerm (pos 0))) (AtomTerm (codes "foo"))) ≡ zero_divisor)
    × (expression_value (Compound (codes "f") (more (IntTerm (pos 1)) (more (IntTerm (pos 2)) (more (VarTerm 3) end)))) ≡ Err (type_error (codes "evaluable") (indicator (codes "f") 3)))
errors = (refl, refl, refl, refl, refl)
