-- Terms by name and arguments.
use Rattle.std.specs.Prelude.{ℕ, Bool, true, false, List, [], ◌∷◌, nat_eq, codes, pos}
use Rattle.std.specs.Cmp.Lexicographic.{pointwise}
use Rattle.au_term.specs.Term.{Term, VarTerm, IntTerm, AtomTerm, Compound, end, more}

abbrev pub same_name : List ℕ → List ℕ → Bool
same_name a b = pointwise nat_eq a b

abbrev pub unary : List ℕ → Term → Term
unary f a = Compound f (more a end)

abbrev pub binary : List ℕ → Term → Term → Term
binary f a b = Compound f (more a (more b end))

-- the list of these terms
abbrev pub list_term : List Term → Term
list_term [] = AtomTerm (codes "[]")
list_term (t ∷ ts) = binary (codes ".") t (list_term ts)

-- the name of an atom or compound
abbrev pub name_of : Term → List ℕ
name_of (AtomTerm a) = a
name_of (Compound f ts) = f
name_of (VarTerm n) = []
name_of (IntTerm z) = []

-- an atom or compound
abbrev pub is_callable : Term → Bool
is_callable (VarTerm n) = false
is_callable (IntTerm z) = false
is_callable (AtomTerm a) = true
is_callable (Compound f ts) = true

-- a procedure's name and number of arguments, as a term (7.1.6.6)
abbrev pub indicator : List ℕ → ℕ → Term
indicator name arity = binary (codes "/") (AtomTerm name) (IntTerm (pos arity))

abbrev pub nil_name : List ℕ
nil_name = codes "[]"

abbrev pub braces_name : List ℕ
braces_name = codes "{}"
