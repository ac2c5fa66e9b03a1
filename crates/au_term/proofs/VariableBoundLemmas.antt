-- The least number above the variables, cell by cell.
use Rattle.std.proofs.Common.{◌≡◌, ℕ, zero, suc, ◌<◌, max, List, [], ◌∷◌, ◌++◌, length, get_or, refl, arith}
use Rattle.au_term.specs.Term.{Term, VarTerm, IntTerm, AtomTerm, Compound, Terms, end, more, var_bound, all_bound}
use Rattle.au_term.specs.PrefixOrder.{cells_of, all_cells, cell_bound, IsValidCell, AreValidCells}
use Rattle.au_term.specs.declared.cell.Cell.{Cell}

abbrev pub cells_bound : List Cell → ℕ
cells_bound [] = 0
cells_bound (c ∷ cs) = max (cell_bound c) (cells_bound cs)

pub cells_bound-append : (cs ds : List Cell) → cells_bound (cs ++ ds) ≡ max (cells_bound cs) (cells_bound ds)
cells_bound-append [] ds = omega arith
cells_bound-append (c ∷ cs) ds = omega (arith, cells_bound-append cs ds)

mutual
  pub cells_bound-cells_of : (t : Term) → cells_bound (cells_of t) ≡ var_bound t
  cells_bound-cells_of (VarTerm n) = omega arith
  cells_bound-cells_of (IntTerm n) = omega arith
  cells_bound-cells_of (AtomTerm n) = omega arith
  cells_bound-cells_of (Compound f ts) = omega (arith, cells_bound-all_cells ts)

  pub cells_bound-all_cells : (ts : Terms) → cells_bound (all_cells ts) ≡ all_bound ts
  cells_bound-all_cells end = refl
  cells_bound-all_cells (more t ts) = omega (arith, cells_bound-append (cells_of t) (all_cells ts), cells_bound-cells_of t, cells_bound-all_cells ts)

pub AreSound-at : (cs : List Cell) (i : ℕ) (c : Cell) → AreValidCells cs → i < length cs → c ≡ get_or cs i c → IsValidCell c
AreSound-at [] i c h lt e = absurd (omega arith)
AreSound-at (d ∷ cs) zero c h lt e = rw e h.0
AreSound-at (d ∷ cs) (suc i) c h lt e = AreSound-at cs i c h.1 (omega arith) e
