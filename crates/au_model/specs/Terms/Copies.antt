-- Copies of a term with new variables (ISO/IEC 13211-1, 7.1.6.2): numbered in order of first occurrence.
use Rattle.std.specs.Prelude.{ℕ, suc, ◌+◌, cond, List, [], ◌∷◌, ◌++◌, ◌==◌, length}
use Rattle.std.specs.List.{list_any}
use Rattle.au_term.specs.Term.{Term, VarTerm, IntTerm, AtomTerm, Compound, Terms, end, more}
use Rattle.au_model.specs.Terms.Substitutions.{apply}

-- the variables seen so far, with one more
abbrev pub noted : List ℕ → ℕ → List ℕ
noted seen n = cond (list_any (λ m. m == n) seen) seen (seen ++ n ∷ [])

-- the variables of a term after those seen so far, in order of first occurrence
abbrev mutual
  pub seen_in : Term → List ℕ → List ℕ
  seen_in (VarTerm n) seen = noted seen n
  seen_in (IntTerm z) seen = seen
  seen_in (AtomTerm a) seen = seen
  seen_in (Compound f ts) seen = seen_in_all ts seen

  pub seen_in_all : Terms → List ℕ → List ℕ
  seen_in_all end seen = seen
  seen_in_all (more t ts) seen = seen_in_all ts (seen_in t seen)

-- the place of a number in a list, and the length where it isn't there
abbrev pub place_of : List ℕ → ℕ → ℕ
place_of [] n = 0
place_of (m ∷ ms) n = cond (m == n) 0 (suc (place_of ms n))

-- each of these variables becomes the one with the next number and its place
abbrev pub renamed : List ℕ → ℕ → ℕ → Term
renamed seen next n = VarTerm (next + place_of seen n)

-- a copy with variables from the next number on
abbrev pub copied : Term → ℕ → Term
copied t next = apply (renamed (seen_in t []) next) t

-- how many numbers the copy takes
abbrev pub copy_takes : Term → ℕ
copy_takes t = length (seen_in t [])
