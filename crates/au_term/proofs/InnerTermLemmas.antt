-- Subterms of subterms, and of terms whose variables' numbers begin further up.
use Rattle.std.proofs.Common.{◌≡◌, ℕ, zero, suc, ◌+◌, ◌-◌, ◌<◌, ◌^◌, List, [], ◌∷◌, ◌++◌, length, length-drop, drop, map, get_or, refl, sym, ap, ◌∙◌, arith}
use Rattle.std.proofs.lemmas.List.{drop-append-le, drop-drop, drop-map, length-map, get_or-drop, get_or_append_left}
use Rattle.au_term.specs.Term.{Term, Terms, end, more, count, first_of, take_terms, drop_terms, var_bound}
use Rattle.au_term.specs.PrefixOrder.{cells_of, terms_of, term_of, subterm, with_cell, cell_bound, IsForest, append_terms, terms_of-all_cells}
use Rattle.au_term.specs.Shifted.{shifted, all_shifted, shifted_cell, IsShiftablePlace}
use Rattle.au_term.specs.declared.cell.Cell.{Cell}
use Rattle.au_term.specs.declared.cell.Cell.TheVariants.{Var as VarCell, Int as IntCell, Atom as AtomCell, Functor}
use Rattle.au_term.proofs.StoredTermLemmas.{Ends, ends}
use Rattle.au_term.proofs.SubtermLemmas.{forest_from, term_forest}
use Rattle.au_term.proofs.SizeFillLemmas.{opened}
use Rattle.au_term.proofs.VariableBoundLemmas.{cells_bound-cells_of}
use Rattle.au_term.proofs.ShiftLemmas.{cells_of-shifted, subterm-bound, bound_at}

some_terms : (cs : List Cell) → 0 < length cs → 0 < count (terms_of cs)
some_terms [] lt = absurd (omega arith)
some_terms (VarCell n ∷ cs) lt = omega arith
some_terms (IntCell z ∷ cs) lt = omega arith
some_terms (AtomCell a ∷ cs) lt = omega arith
some_terms (Functor f n ∷ cs) lt = omega arith

first_appended : (ts us : Terms) → 0 < count ts → first_of (append_terms ts us) ≡ first_of ts
first_appended end us lt = absurd (omega arith)
first_appended (more t ts) us lt = refl

-- what follows the cells of whole terms plays no part in the first of them
term_of-append : (cs ds : List Cell) → IsForest cs → 0 < length cs → term_of (cs ++ ds) ≡ term_of cs
term_of-append cs ds f lt =
    ap (λ es. first_of (terms_of (es ++ ds))) (sym f.cells)
    ∙ (ap first_of (terms_of-all_cells (terms_of cs) ds) ∙ first_appended (terms_of cs) (terms_of ds) (some_terms cs lt))

-- a cell of a subterm, as a cell of the whole term
pub record Nested (t : Term) (start at : ℕ) : Type 0 where
  pub within : start + at < length (cells_of t)
  pub same : subterm (start + at) t ≡ subterm at (subterm start t)

pub nested : (t : Term) (start at : ℕ) → start < length (cells_of t) → at < length (cells_of (subterm start t)) → Nested t start at
nested t start at lt less =
    let u = subterm start t in
    let e = ends t start (start + length (cells_of u)) lt refl in
    let more_cells = drop (start + length (cells_of u)) (cells_of t) in
    let here : drop (start + at) (cells_of t) ≡ drop at (cells_of u) ++ more_cells =
    sym (drop-drop at start (cells_of t)) ∙ (ap (drop at) e.rest ∙ drop-append-le at (cells_of u) more_cells (omega arith)) in
    let some : 0 < length (drop at (cells_of u)) = omega (arith, length-drop at (cells_of u)) in
    record {
      within = omega (arith, e.within);
      same = ap term_of here ∙ term_of-append (drop at (cells_of u)) more_cells (forest_from (cells_of u) at (term_forest u)) some;
    }

take-shifted : (base n : ℕ) (ts : Terms) → take_terms n (all_shifted base ts) ≡ all_shifted base (take_terms n ts)
take-shifted base zero ts = refl
take-shifted base (suc n) end = refl
take-shifted base (suc n) (more t ts) = ap (more (shifted base t)) (take-shifted base n ts)

drop-shifted : (base n : ℕ) (ts : Terms) → drop_terms n (all_shifted base ts) ≡ all_shifted base (drop_terms n ts)
drop-shifted base zero ts = refl
drop-shifted base (suc n) end = refl
drop-shifted base (suc n) (more t ts) = drop-shifted base n ts

with_cell-shifted : (base : ℕ) (c : Cell) (ts : Terms) → with_cell (shifted_cell base c) (all_shifted base ts) ≡ all_shifted base (with_cell c ts)
with_cell-shifted base (VarCell n) ts = refl
with_cell-shifted base (IntCell z) ts = refl
with_cell-shifted base (AtomCell a) ts = refl
with_cell-shifted base (Functor f n) ts = rw (take-shifted base n ts, drop-shifted base n ts)

terms_of-shifted : (base : ℕ) (cs : List Cell) → terms_of (map (shifted_cell base) cs) ≡ all_shifted base (terms_of cs)
terms_of-shifted base [] = refl
terms_of-shifted base (c ∷ cs) = ap (with_cell (shifted_cell base c)) (terms_of-shifted base cs) ∙ with_cell-shifted base c (terms_of cs)

first_shifted : (base : ℕ) (ts : Terms) → 0 < count ts → first_of (all_shifted base ts) ≡ shifted base (first_of ts)
first_shifted base end lt = absurd (omega arith)
first_shifted base (more t ts) lt = refl

pub length-cells_of-shifted : (base : ℕ) (t : Term) → length (cells_of (shifted base t)) ≡ length (cells_of t)
length-cells_of-shifted base t = ap length (cells_of-shifted base t) ∙ length-map (cells_of t) (shifted_cell base)

pub subterm-shifted : (base at : ℕ) (t : Term) → at < length (cells_of t) → subterm at (shifted base t) ≡ shifted base (subterm at t)
subterm-shifted base at t lt =
    let some : 0 < length (drop at (cells_of t)) = omega (arith, length-drop at (cells_of t)) in
    ap (λ cs. term_of (drop at cs)) (cells_of-shifted base t)
    ∙ (ap term_of (drop-map (shifted_cell base) at (cells_of t))
    ∙ (ap first_of (terms_of-shifted base (drop at (cells_of t))) ∙ first_shifted base (terms_of (drop at (cells_of t))) (some_terms (drop at (cells_of t)) some)))

-- a subterm of a term that is itself a shifted subterm
pub record Inner (t : Term) (start base : ℕ) (at : ℕ) : Type 0 where
  pub place : IsShiftablePlace t (start + at) base
  pub same : shifted base (subterm (start + at) t) ≡ subterm at (shifted base (subterm start t))

pub inner : (t : Term) (start base at : ℕ) → IsShiftablePlace t start base → at < length (cells_of (shifted base (subterm start t))) → Inner t start base at
inner t start base at p lt =
    let less : at < length (cells_of (subterm start t)) = omega (arith, length-cells_of-shifted base (subterm start t)) in
    let n = nested t start at p.within less in
    record {
      place = record { within = n.within; fits = omega (arith, ap var_bound n.same, subterm-bound (subterm start t) at less, p.fits) };
      same = ap (shifted base) n.same ∙ sym (subterm-shifted base at (subterm start t) less);
    }

-- the cell of such a term at a place
pub record CellThere (t : Term) (start base at : ℕ) (c : Cell) : Type 0 where
  pub is : drop at (cells_of (shifted base (subterm start t))) ≡ shifted_cell base c ∷ drop (at + 1) (cells_of (shifted base (subterm start t)))
  pub fits : base + cell_bound c < 2 ^ 64

first_part : (all part rest : List Cell) (start at : ℕ) (d : Cell) → at < length part → drop start all ≡ part ++ rest → get_or all (start + at) d ≡ get_or part at d
first_part all part rest start at d lt e = sym (get_or-drop start all at d) ∙ (ap (λ l. get_or l at d) e ∙ get_or_append_left part rest d at lt)

pub cell_there : (t : Term) (start base at : ℕ) (c : Cell) → IsShiftablePlace t start base → at < length (cells_of (shifted base (subterm start t))) → c ≡ get_or (cells_of t) (start + at) c → CellThere t start base at c
cell_there t start base at c p lt is =
    let u = subterm start t in
    let less : at < length (cells_of u) = omega (arith, length-cells_of-shifted base u) in
    let e = ends t start (start + length (cells_of u)) p.within refl in
    let same : c ≡ get_or (cells_of u) at c = is ∙ first_part (cells_of t) (cells_of u) (drop (start + length (cells_of u)) (cells_of t)) start at c less e.rest in
    record {
      is = ap (drop at) (cells_of-shifted base u)
          ∙ (drop-map (shifted_cell base) at (cells_of u)
          ∙ (ap (map (shifted_cell base)) (opened (cells_of u) at c less same)
          ∙ ap (λ ds. shifted_cell base c ∷ ds) (sym (drop-map (shifted_cell base) (at + 1) (cells_of u)) ∙ ap (drop (at + 1)) (sym (cells_of-shifted base u)))));
      fits = omega (arith, bound_at (cells_of u) at c less same, cells_bound-cells_of u, p.fits);
    }

-- where a subterm of such a term ends
pub inner_ends : (t : Term) (start base at stop : ℕ) → IsShiftablePlace t start base → at < length (cells_of (shifted base (subterm start t))) → stop ≡ start + at + length (cells_of (subterm (start + at) t))
    → Ends (shifted base (subterm start t)) at (stop - start)
inner_ends t start base at stop p lt e =
    let i = inner t start base at p lt in
    let long : length (cells_of (subterm (start + at) t)) ≡ length (cells_of (subterm at (shifted base (subterm start t)))) =
    sym (length-cells_of-shifted base (subterm (start + at) t)) ∙ ap (λ u. length (cells_of u)) i.same in
    ends (shifted base (subterm start t)) at (stop - start) lt (omega arith)
