-- What a term is: a finite tree.
use Rattle.std.specs.Prelude.{ℕ, zero, suc, max, ℤ, List}

-- a variable by its number, an integer, an atom by its characters, or a compound: its name and arguments
mutual
  pub data Term : Type 0 where
    VarTerm : ℕ → Term
    IntTerm : ℤ → Term
    AtomTerm : List ℕ → Term
    Compound : List ℕ → Terms → Term

  pub data Terms : Type 0 where
    end : Terms
    more : Term → Terms → Terms

-- how many terms there are
abbrev pub count : Terms → ℕ
count end = 0
count (more t ts) = suc (count ts)

abbrev pub first_of : Terms → Term
first_of end = VarTerm 0
first_of (more t ts) = t

abbrev pub take_terms : ℕ → Terms → Terms
take_terms zero ts = end
take_terms (suc n) end = end
take_terms (suc n) (more t ts) = more t (take_terms n ts)

abbrev pub drop_terms : ℕ → Terms → Terms
drop_terms zero ts = ts
drop_terms (suc n) end = end
drop_terms (suc n) (more t ts) = drop_terms n ts

abbrev pub term_at : ℕ → Terms → Term
term_at n ts = first_of (drop_terms n ts)

-- the least number above all variables
abbrev mutual
  pub var_bound : Term → ℕ
  var_bound (VarTerm n) = suc n
  var_bound (IntTerm z) = 0
  var_bound (AtomTerm a) = 0
  var_bound (Compound f ts) = all_bound ts

  pub all_bound : Terms → ℕ
  all_bound end = 0
  all_bound (more t ts) = max (var_bound t) (all_bound ts)

abbrev pub arguments : Term → Terms
arguments (Compound f ts) = ts
arguments _ = end

abbrev pub argument_count : Term → ℕ
argument_count t = count (arguments t)

-- the argument with this number, counted from 0
abbrev pub argument : ℕ → Term → Term
argument i t = term_at i (arguments t)
