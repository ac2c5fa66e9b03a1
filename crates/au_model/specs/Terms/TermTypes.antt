-- The types of terms (ISO/IEC 13211-1, 7.1).
use Rattle.std.specs.Prelude.{Bool, true, false}
use Rattle.au_term.specs.Term.{Term, VarTerm, IntTerm, AtomTerm, Compound}

abbrev pub is_variable : Term → Bool
is_variable (VarTerm n) = true
is_variable (IntTerm z) = false
is_variable (AtomTerm a) = false
is_variable (Compound f ts) = false

abbrev pub is_integer : Term → Bool
is_integer (VarTerm n) = false
is_integer (IntTerm z) = true
is_integer (AtomTerm a) = false
is_integer (Compound f ts) = false

abbrev pub is_atom : Term → Bool
is_atom (VarTerm n) = false
is_atom (IntTerm z) = false
is_atom (AtomTerm a) = true
is_atom (Compound f ts) = false

abbrev pub is_compound : Term → Bool
is_compound (VarTerm n) = false
is_compound (IntTerm z) = false
is_compound (AtomTerm a) = false
is_compound (Compound f ts) = true
