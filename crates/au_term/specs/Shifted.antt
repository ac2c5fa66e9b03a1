-- Terms whose variables' numbers begin further up.
use Rattle.std.specs.Prelude.{ℕ, ◌+◌, ◌<◌, ◌^◌, length}
use Rattle.au_term.specs.Term.{Term, VarTerm, IntTerm, AtomTerm, Compound, Terms, end, more, var_bound}
use Rattle.au_term.specs.PrefixOrder.{cells_of, subterm}
use Rattle.au_term.specs.declared.cell.Cell.{Cell}
use Rattle.au_term.specs.declared.cell.Cell.TheVariants.{Var as VarCell}

-- the term with this added to the number of each variable
abbrev mutual
  pub shifted : ℕ → Term → Term
  shifted base (VarTerm n) = VarTerm (base + n)
  shifted base (IntTerm z) = IntTerm z
  shifted base (AtomTerm a) = AtomTerm a
  shifted base (Compound f ts) = Compound f (all_shifted base ts)

  pub all_shifted : ℕ → Terms → Terms
  all_shifted base end = end
  all_shifted base (more t ts) = more (shifted base t) (all_shifted base ts)

abbrev pub shifted_cell : ℕ → Cell → Cell
shifted_cell base (VarCell n) = VarCell (base + n)
shifted_cell base c = c

-- a place of the term, whose subterm's variables can be shifted by this and stay below the greatest number
pub record IsShiftablePlace (t : Term) (at base : ℕ) : Type 0 where
  pub within : at < length (cells_of t)
  pub fits : base + var_bound (subterm at t) < 2 ^ 64
