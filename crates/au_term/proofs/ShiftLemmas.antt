-- Terms whose variables' numbers begin further up.
use Rattle.std.proofs.Common.{◌≡◌, ℕ, zero, suc, ◌+◌, ◌<◌, ◌≤◌, ◌^◌, List, [], ◌∷◌, ◌++◌, length, map, drop, zero-add, refl, sym, ap, ap₂, ◌∙◌, arith, subst, get_or}
use Rattle.std.proofs.lemmas.List.{map-append}
use Rattle.au_term.specs.Term.{Term, VarTerm, IntTerm, AtomTerm, Compound, Terms, end, more, count, term_at, argument, argument_count, var_bound, all_bound}
use Rattle.au_term.specs.PrefixOrder.{cells_of, all_cells, top_of, cell_bound, AreValidCells, IsTerm, term_of, subterm}
use Rattle.au_term.specs.Shifted.{shifted, all_shifted, shifted_cell, IsShiftablePlace}
use Rattle.au_term.specs.declared.cell.Cell.{Cell}
use Rattle.au_term.specs.declared.cell.Cell.TheVariants.{Var as VarCell, Int as IntCell, Atom as AtomCell, Functor}
use Rattle.au_term.proofs.WholeTermLemmas.{DueAfter-term, whole}
use Rattle.au_term.proofs.VariableBoundLemmas.{cells_bound, cells_bound-append, cells_bound-cells_of}
use Rattle.au_term.proofs.StoredTermLemmas.{ends}
use Rattle.au_term.proofs.SubtermLemmas.{some_cell}

pub count-all_shifted : (base : ℕ) (ts : Terms) → count (all_shifted base ts) ≡ count ts
count-all_shifted base end = refl
count-all_shifted base (more t ts) = ap suc (count-all_shifted base ts)

mutual
  pub cells_of-shifted : (base : ℕ) (t : Term) → cells_of (shifted base t) ≡ map (shifted_cell base) (cells_of t)
  cells_of-shifted base (VarTerm n) = refl
  cells_of-shifted base (IntTerm n) = refl
  cells_of-shifted base (AtomTerm n) = refl
  cells_of-shifted base (Compound f ts) = ap₂ (λ n cs. Functor f n ∷ cs) (count-all_shifted base ts) (all_cells-shifted base ts)

  pub all_cells-shifted : (base : ℕ) (ts : Terms) → all_cells (all_shifted base ts) ≡ map (shifted_cell base) (all_cells ts)
  all_cells-shifted base end = refl
  all_cells-shifted base (more t ts) = ap₂ (λ cs ds. cs ++ ds) (cells_of-shifted base t) (all_cells-shifted base ts) ∙ sym (map-append (shifted_cell base) (cells_of t) (all_cells ts))

pub top_of-shifted : (base : ℕ) (t : Term) → top_of (shifted base t) ≡ shifted_cell base (top_of t)
top_of-shifted base (VarTerm n) = refl
top_of-shifted base (IntTerm n) = refl
top_of-shifted base (AtomTerm n) = refl
top_of-shifted base (Compound f ts) = ap (Functor f) (count-all_shifted base ts)

pub argument_count-shifted : (base : ℕ) (t : Term) → argument_count (shifted base t) ≡ argument_count t
argument_count-shifted base (VarTerm n) = refl
argument_count-shifted base (IntTerm n) = refl
argument_count-shifted base (AtomTerm n) = refl
argument_count-shifted base (Compound f ts) = count-all_shifted base ts

term_at-shifted : (base i : ℕ) (ts : Terms) → i < count ts → term_at i (all_shifted base ts) ≡ shifted base (term_at i ts)
term_at-shifted base i end lt = absurd (omega arith)
term_at-shifted base zero (more t ts) lt = refl
term_at-shifted base (suc i) (more t ts) lt = term_at-shifted base i ts (omega arith)

pub argument-shifted : (base i : ℕ) (t : Term) → i < argument_count t → argument i (shifted base t) ≡ shifted base (argument i t)
argument-shifted base i (VarTerm n) lt = absurd (omega arith)
argument-shifted base i (IntTerm n) lt = absurd (omega arith)
argument-shifted base i (AtomTerm n) lt = absurd (omega arith)
argument-shifted base i (Compound f ts) lt = term_at-shifted base i ts lt

term_at-bound : (i : ℕ) (ts : Terms) → i < count ts → var_bound (term_at i ts) ≤ all_bound ts
term_at-bound i end lt = absurd (omega arith)
term_at-bound zero (more t ts) lt = omega arith
term_at-bound (suc i) (more t ts) lt = let h = term_at-bound i ts (omega arith) in omega arith

pub argument-bound : (i : ℕ) (t : Term) → i < argument_count t → var_bound (argument i t) ≤ var_bound t
argument-bound i (VarTerm n) lt = absurd (omega arith)
argument-bound i (IntTerm n) lt = absurd (omega arith)
argument-bound i (AtomTerm n) lt = absurd (omega arith)
argument-bound i (Compound f ts) lt = term_at-bound i ts lt

pub bound_at : (cs : List Cell) (i : ℕ) (c : Cell) → i < length cs → c ≡ get_or cs i c → cell_bound c ≤ cells_bound cs
bound_at [] i c lt is = absurd (omega arith)
bound_at (d ∷ cs) zero c lt is = omega (arith, ap cell_bound is)
bound_at (d ∷ cs) (suc i) c lt is = let h = bound_at cs i c (omega arith) is in omega arith

AreSound-shifted : (base : ℕ) (cs : List Cell) → AreValidCells cs → base + cells_bound cs < 2 ^ 64 → AreValidCells (map (shifted_cell base) cs)
AreSound-shifted base [] h lt = tt
AreSound-shifted base (VarCell n ∷ cs) h lt = (omega arith, AreSound-shifted base cs h.1 (omega arith))
AreSound-shifted base (IntCell n ∷ cs) h lt = (tt, AreSound-shifted base cs h.1 (omega arith))
AreSound-shifted base (AtomCell n ∷ cs) h lt = (tt, AreSound-shifted base cs h.1 (omega arith))
AreSound-shifted base (Functor f n ∷ cs) h lt = (h.0, AreSound-shifted base cs h.1 (omega arith))

pub shifted_whole : (base : ℕ) (t : Term) → AreValidCells (cells_of t) → base + var_bound t < 2 ^ 64 → IsTerm (cells_of (shifted base t))
shifted_whole base t h lt = record {
  leaves = DueAfter-term (shifted base t);
  sound = subst AreValidCells (sym (cells_of-shifted base t)) (AreSound-shifted base (cells_of t) h (omega (arith, cells_bound-cells_of t)));
}

pub bound_whole : (cs : List Cell) → IsTerm cs → cells_bound cs ≡ var_bound (term_of cs)
bound_whole cs h = ap cells_bound (whole cs h.leaves) ∙ cells_bound-cells_of (term_of cs)

pub shifted_cells : (base : ℕ) (cs : List Cell) → IsTerm cs → map (shifted_cell base) cs ≡ cells_of (shifted base (term_of cs))
shifted_cells base cs h = ap (map (shifted_cell base)) (whole cs h.leaves) ∙ sym (cells_of-shifted base (term_of cs))

pub shifted_term : (base : ℕ) (cs : List Cell) → IsTerm cs → base + var_bound (term_of cs) < 2 ^ 64 → IsTerm (map (shifted_cell base) cs)
shifted_term base cs h lt = subst IsTerm (sym (shifted_cells base cs h)) (shifted_whole base (term_of cs) (subst AreValidCells (whole cs h.leaves) h.sound) lt)

cells_bound-drop : (cs : List Cell) (n : ℕ) → cells_bound (drop n cs) ≤ cells_bound cs
cells_bound-drop cs zero = omega arith
cells_bound-drop [] (suc n) = omega arith
cells_bound-drop (c ∷ cs) (suc n) = let h = cells_bound-drop cs n in omega arith

pub subterm-bound : (t : Term) (at : ℕ) → at < length (cells_of t) → var_bound (subterm at t) ≤ var_bound t
subterm-bound t at lt =
    let e = ends t at (at + length (cells_of (subterm at t))) lt refl in
    omega (arith, ap cells_bound e.rest, cells_bound-append (cells_of (subterm at t)) (drop (at + length (cells_of (subterm at t))) (cells_of t)), cells_bound-cells_of (subterm at t), cells_bound-cells_of t, cells_bound-drop (cells_of t) at)

-- where all variables of a term can be shifted, each of its cells is a place
pub place_of : (t : Term) (at base : ℕ) → at < length (cells_of t) → base + var_bound t < 2 ^ 64 → IsShiftablePlace t at base
place_of t at base lt h = record { within = lt; fits = omega (arith, subterm-bound t at lt) }

mutual
  pub shifted-zero : (t : Term) → shifted 0 t ≡ t
  shifted-zero (VarTerm n) = ap VarTerm (zero-add n)
  shifted-zero (IntTerm n) = refl
  shifted-zero (AtomTerm n) = refl
  shifted-zero (Compound f ts) = ap (Compound f) (all_shifted-zero ts)

  pub all_shifted-zero : (ts : Terms) → all_shifted 0 ts ≡ ts
  all_shifted-zero end = refl
  all_shifted-zero (more t ts) = ap₂ more (shifted-zero t) (all_shifted-zero ts)

pub AreSound-bound : (cs : List Cell) → AreValidCells cs → cells_bound cs < 2 ^ 64
AreSound-bound [] h = omega arith
AreSound-bound (VarCell n ∷ cs) h = let k = AreSound-bound cs h.1 in omega (arith, h.0)
AreSound-bound (IntCell n ∷ cs) h = let k = AreSound-bound cs h.1 in omega arith
AreSound-bound (AtomCell n ∷ cs) h = let k = AreSound-bound cs h.1 in omega arith
AreSound-bound (Functor f n ∷ cs) h = let k = AreSound-bound cs h.1 in omega arith

pub first_place : (t : Term) → AreValidCells (cells_of t) → IsShiftablePlace t 0 0
first_place t h = place_of t 0 0 (some_cell t) (omega (arith, AreSound-bound (cells_of t) h, cells_bound-cells_of t))
