-- The subterms of a term, by the places of its cells.
use Rattle.std.proofs.Common.{◌≡◌, ℕ, ℤ, zero, suc, ◌+◌, ◌<◌, ◌≤◌, List, [], ◌∷◌, ◌++◌, length, take, drop, refl, sym, ap, ◌∙◌, append-nil, arith, length-append, length-drop, subst}
use Rattle.std.proofs.Math.Seq.{take-append_seam, drop-append_seam}
use Rattle.au_term.specs.Term.{Term, VarTerm, IntTerm, AtomTerm, Compound, Terms, end, more, count, first_of, take_terms, drop_terms, term_at, argument, arguments, argument_count}
use Rattle.au_term.specs.PrefixOrder.{cells_of, all_cells, arity, with_cell, terms_of, term_of, terms_of-cells_of, IsForest, subterm, top_of}
use Rattle.au_term.specs.Arguments.{terms_of-cells}
use Rattle.au_term.specs.declared.cell.Cell.{Cell}
use Rattle.au_term.specs.declared.cell.Cell.TheVariants.{Var as VarCell, Int as IntCell, Atom as AtomCell, Functor}
use Rattle.au_term.proofs.WholeTermLemmas.{take_drop_cells, count-take, count-drop}

-- what a forest's first cell says
pub record Opens (c : Cell) (cs : List Cell) : Type 0 where
  pub enough : arity c ≤ count (terms_of cs)
  pub rest : IsForest cs

some_count : (n : ℕ) (ts : Terms) → count (take_terms n ts) ≡ n → n ≤ count ts
some_count zero ts e = omega arith
some_count (suc n) end e = omega arith
some_count (suc n) (more t ts) e = let h = some_count n ts (omega arith) in omega arith

pub opens : (c : Cell) (cs : List Cell) → IsForest (c ∷ cs) → Opens c cs
opens (VarCell n) cs h = let e = h.cells in record { enough = omega arith; rest = record { cells = cc } }
opens (IntCell n) cs h = let e = h.cells in record { enough = omega arith; rest = record { cells = cc } }
opens (AtomCell n) cs h = let e = h.cells in record { enough = omega arith; rest = record { cells = cc } }
opens (Functor f n) cs h =
    let e = h.cells in
    let number : count (take_terms n (terms_of cs)) ≡ n = cc in
    let rest : all_cells (take_terms n (terms_of cs)) ++ all_cells (drop_terms n (terms_of cs)) ≡ cs = cc in
    record { enough = some_count n (terms_of cs) number; rest = record { cells = sym (take_drop_cells n (terms_of cs)) ∙ rest } }

pub some_cell : (t : Term) → 0 < length (cells_of t)
some_cell (VarTerm n) = omega arith
some_cell (IntTerm n) = omega arith
some_cell (AtomTerm n) = omega arith
some_cell (Compound f ts) = omega arith

pub all_forest : (ts : Terms) → IsForest (all_cells ts)
all_forest ts = record { cells = ap all_cells (terms_of-cells ts) }

pub term_forest : (t : Term) → IsForest (cells_of t)
term_forest t = subst IsForest (append-nil (cells_of t)) (all_forest (more t end))

-- from each cell on, the cells of whole terms follow
pub forest_from : (cs : List Cell) (i : ℕ) → IsForest cs → IsForest (drop i cs)
forest_from cs zero h = h
forest_from [] (suc i) h = h
forest_from (c ∷ cs) (suc i) h = forest_from cs i (opens c cs h).rest

first_cells : (ts : Terms) (cs : List Cell) → all_cells ts ≡ cs → 0 < length cs → cs ≡ cells_of (first_of ts) ++ drop (length (cells_of (first_of ts))) cs
first_cells end cs e lt = absurd (omega (arith, ap length e))
first_cells (more u us) cs e lt =
    subst (λ ds. ds ≡ cells_of u ++ drop (length (cells_of u)) ds) e (ap (λ ds. cells_of u ++ ds) (sym (drop-append_seam (cells_of u) (all_cells us))))

-- the first term's cells, and what follows them
pub first_splits : (cs : List Cell) → IsForest cs → 0 < length cs → cs ≡ cells_of (term_of cs) ++ drop (length (cells_of (term_of cs))) cs
first_splits cs h lt = first_cells (terms_of cs) cs h.cells lt

pub first_taken : (cs : List Cell) → IsForest cs → 0 < length cs → take (length (cells_of (term_of cs))) cs ≡ cells_of (term_of cs)
first_taken cs h lt =
    let t = term_of cs in
    ap (take (length (cells_of t))) (first_splits cs h lt) ∙ take-append_seam (cells_of t) (drop (length (cells_of t)) cs)

-- so many terms' cells passed
pub rest_cells : (n : ℕ) (ts : Terms) → drop (length (all_cells (take_terms n ts))) (all_cells ts) ≡ all_cells (drop_terms n ts)
rest_cells n ts =
    ap (drop (length (all_cells (take_terms n ts)))) (sym (take_drop_cells n ts)) ∙ drop-append_seam (all_cells (take_terms n ts)) (all_cells (drop_terms n ts))

pub term_of_all : (ts : Terms) → term_of (all_cells ts) ≡ first_of ts
term_of_all ts = ap first_of (terms_of-cells ts)

term_at-take : (i n : ℕ) (ts : Terms) → i < count (take_terms n ts) → term_at i (take_terms n ts) ≡ term_at i ts
term_at-take i zero ts lt = absurd (omega arith)
term_at-take i (suc n) end lt = absurd (omega arith)
term_at-take zero (suc n) (more t ts) lt = refl
term_at-take (suc i) (suc n) (more t ts) lt = term_at-take i n ts (omega arith)

few_taken : (n : ℕ) (ts : Terms) → count (take_terms n ts) ≤ count ts
few_taken zero ts = omega arith
few_taken (suc n) end = omega arith
few_taken (suc n) (more t ts) = omega (arith, few_taken n ts)

pub some_cells : (ts : Terms) → 0 < count ts → 0 < length (all_cells ts)
some_cells end lt = absurd (omega arith)
some_cells (more t ts) lt = omega (arith, length-append (cells_of t) (all_cells ts), some_cell t)

arguments-with_cell : (c : Cell) (ts : Terms) → arguments (first_of (with_cell c ts)) ≡ take_terms (arity c) ts
arguments-with_cell (VarCell n) ts = refl
arguments-with_cell (IntCell n) ts = refl
arguments-with_cell (AtomCell n) ts = refl
arguments-with_cell (Functor f n) ts = refl

-- an argument of the term that begins with this cell, among the cells that follow
pub record Inside (c : Cell) (cs : List Cell) (i : ℕ) : Type 0 where
  pub enough : i < count (terms_of cs)
  pub within : length (all_cells (take_terms i (terms_of cs))) < length cs
  pub is : term_of (drop (length (all_cells (take_terms i (terms_of cs)))) cs) ≡ argument i (term_of (c ∷ cs))

pub inside : (c : Cell) (cs : List Cell) (i : ℕ) → IsForest (c ∷ cs) → i < argument_count (term_of (c ∷ cs)) → Inside c cs i
inside c cs i h lt =
    let ts = terms_of cs in
    let f = (opens c cs h).rest.cells in
    let same = arguments-with_cell c ts in
    let few : i < count (take_terms (arity c) ts) = subst (λ us. i < count us) same lt in
    let enough : i < count ts = omega (arith, few_taken (arity c) ts) in
    let k = length (all_cells (take_terms i ts)) in
    let rest : drop k cs ≡ all_cells (drop_terms i ts) = ap (drop k) (sym f) ∙ rest_cells i ts in
    let some : 0 < length (drop k cs) = rw rest (some_cells (drop_terms i ts) (omega (arith, count-drop i ts))) in
    record {
      enough = enough;
      within = omega (arith, length-drop k cs);
      is = ap term_of rest ∙ (term_of_all (drop_terms i ts) ∙ (sym (term_at-take i (arity c) ts few) ∙ ap (term_at i) (sym same)));
    }

pub subterm-zero : (t : Term) → subterm 0 t ≡ t
subterm-zero t = ap (λ cs. term_of cs) (sym (append-nil (cells_of t))) ∙ ap first_of (terms_of-cells_of t [])

-- the first cell of a subterm
top_of-first : (c : Cell) (cs : List Cell) → IsForest (c ∷ cs) → top_of (first_of (with_cell c (terms_of cs))) ≡ c
top_of-first (VarCell n) cs h = refl
top_of-first (IntCell z) cs h = refl
top_of-first (AtomCell a) cs h = refl
top_of-first (Functor f n) cs h = ap (Functor f) (count-take n (terms_of cs) (opens (Functor f n) cs h).enough)

pub top_of-subterm : (t : Term) (at : ℕ) (c : Cell) → drop at (cells_of t) ≡ c ∷ drop (at + 1) (cells_of t) → top_of (subterm at t) ≡ c
top_of-subterm t at c here = ap (λ cs. top_of (term_of cs)) here ∙ top_of-first c (drop (at + 1) (cells_of t)) (subst IsForest here (forest_from (cells_of t) at (term_forest t)))

-- an atom and an integer are known by their first cell
pub atom_of_top : (t : Term) (a : List ℕ) → top_of t ≡ AtomCell a → t ≡ AtomTerm a
atom_of_top (VarTerm n) a h = absurd cc
atom_of_top (IntTerm z) a h = absurd cc
atom_of_top (AtomTerm b) a h = let same : b ≡ a = cc in ap AtomTerm same
atom_of_top (Compound f ts) a h = absurd cc

pub integer_of_top : (t : Term) (z : ℤ) → top_of t ≡ IntCell z → t ≡ IntTerm z
integer_of_top (VarTerm n) z h = absurd cc
integer_of_top (IntTerm y) z h = let same : y ≡ z = cc in ap IntTerm same
integer_of_top (AtomTerm b) z h = absurd cc
integer_of_top (Compound f ts) z h = absurd cc
