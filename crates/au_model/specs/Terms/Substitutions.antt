-- Substitutions (ISO/IEC 13211-1, 7.3.1): what each variable stands for, put in its place at once.
use Rattle.std.specs.Prelude.{ℕ, Bool, false, ◌||◌, cond, List, [], ◌∷◌, ◌==◌}
use Rattle.au_term.specs.Term.{Term, VarTerm, IntTerm, AtomTerm, Compound, Terms, end, more}

-- each variable of a term replaced by what it stands for
abbrev mutual
  pub apply : (ℕ → Term) → Term → Term
  apply f (VarTerm n) = f n
  apply f (IntTerm z) = IntTerm z
  apply f (AtomTerm a) = AtomTerm a
  apply f (Compound name ts) = Compound name (apply_all f ts)

  pub apply_all : (ℕ → Term) → Terms → Terms
  apply_all f end = end
  apply_all f (more t ts) = more (apply f t) (apply_all f ts)

-- a finite map from variables to terms
abbrev pub Substitution : Type 0
Substitution = List (ℕ × Term)

-- what a variable stands for: itself where the map has nothing for it
abbrev pub value_of : Substitution → ℕ → Term
value_of [] n = VarTerm n
value_of ((m, t) ∷ s) n = cond (m == n) t (value_of s n)

abbrev pub resolve : Substitution → Term → Term
resolve s t = apply (value_of s) t

-- one variable replaced by a term
abbrev pub only : ℕ → Term → ℕ → Term
only x t n = cond (x == n) t (VarTerm n)

-- whether a variable occurs in a term
abbrev mutual
  pub occurs : ℕ → Term → Bool
  occurs x (VarTerm n) = x == n
  occurs x (IntTerm z) = false
  occurs x (AtomTerm a) = false
  occurs x (Compound name ts) = occurs_in x ts

  pub occurs_in : ℕ → Terms → Bool
  occurs_in x end = false
  occurs_in x (more t ts) = occurs x t || occurs_in x ts
