-- A term as the list of its cells in prefix order, and back.
use Rattle.std.specs.Prelude.{◌≡◌, ℕ, suc, ℤ, ◌⊎◌, ◌+◌, ◌-◌, ◌^◌, ◌<◌, ◌≤◌, List, [], ◌∷◌, ◌++◌, drop, refl}
use Rattle.std.proofs.Common.{sym, ap, ◌∙◌, append_assoc, inl, inr, append-nil}
use Rattle.std.specs.Coded.{Coded, code_by, coded_ℕ, coded_ℤ, coded_list, coded×, coded⊎}
use Rattle.au_term.specs.Term.{Term, VarTerm, IntTerm, AtomTerm, Compound, Terms, end, more, count, first_of, take_terms, drop_terms}
use Rattle.au_term.specs.declared.cell.Cell.{Cell}
use Rattle.au_term.specs.declared.cell.Cell.TheVariants.{Var as VarCell, Int as IntCell, Atom as AtomCell, Functor}

-- the cells of a term: a compound's name and number of arguments, and then its arguments
abbrev mutual
  pub cells_of : Term → List Cell
  cells_of (VarTerm n) = VarCell n ∷ []
  cells_of (IntTerm z) = IntCell z ∷ []
  cells_of (AtomTerm a) = AtomCell a ∷ []
  cells_of (Compound f ts) = Functor f (count ts) ∷ all_cells ts

  pub all_cells : Terms → List Cell
  all_cells end = []
  all_cells (more t ts) = cells_of t ++ all_cells ts

-- the first cell of a term
abbrev pub top_of : Term → Cell
top_of (VarTerm n) = VarCell n
top_of (IntTerm z) = IntCell z
top_of (AtomTerm a) = AtomCell a
top_of (Compound f ts) = Functor f (count ts)

-- how many terms follow a cell as its arguments
abbrev pub arity : Cell → ℕ
arity (Functor f n) = n
arity _ = 0

-- the terms that begin with a cell, where these follow it
abbrev pub with_cell : Cell → Terms → Terms
with_cell (VarCell n) ts = more (VarTerm n) ts
with_cell (IntCell z) ts = more (IntTerm z) ts
with_cell (AtomCell a) ts = more (AtomTerm a) ts
with_cell (Functor f n) ts = more (Compound f (take_terms n ts)) (drop_terms n ts)

-- the terms that cells stand for
abbrev pub terms_of : List Cell → Terms
terms_of [] = end
terms_of (c ∷ cs) = with_cell c (terms_of cs)

-- the term that cells stand for
abbrev pub term_of : List Cell → Term
term_of cs = first_of (terms_of cs)

-- the subterm whose cells begin at this place of the term's
abbrev pub subterm : ℕ → Term → Term
subterm at t = term_of (drop at (cells_of t))

-- the cells are those of whole terms, one after another
pub record IsForest (cs : List Cell) : Type 0 where
  pub cells : all_cells (terms_of cs) ≡ cs

-- where this many terms are due and these cells come, this many terms are still due
abbrev pub DueAfter : ℕ → List Cell → ℕ → Type 0
DueAfter due [] left = due ≡ left
DueAfter due (c ∷ cs) left = (0 < due) × DueAfter (due - 1 + arity c) cs left

-- where this many terms are due, each of these cells comes while one is
abbrev pub AreDue : ℕ → List Cell → Type 0
AreDue due [] = Unit {0}
AreDue due (c ∷ cs) = (0 < due) × AreDue (due - 1 + arity c) cs

-- how many terms are still due, where this many were
abbrev pub due_after : ℕ → List Cell → ℕ
due_after due [] = due
due_after due (c ∷ cs) = due_after (due - 1 + arity c) cs

-- a variable's number is below the greatest one, and a compound has 1 to 65,535 arguments
abbrev pub IsValidCell : Cell → Type 0
IsValidCell (VarCell n) = n < 2 ^ 64 - 1
IsValidCell (IntCell z) = Unit {0}
IsValidCell (AtomCell a) = Unit {0}
IsValidCell (Functor f n) = (0 < n) × (n ≤ 65535)

-- the least number above a cell's variable
abbrev pub cell_bound : Cell → ℕ
cell_bound (VarCell n) = suc n
cell_bound _ = 0

abbrev pub AreValidCells : List Cell → Type 0
AreValidCells [] = Unit {0}
AreValidCells (c ∷ cs) = IsValidCell c × AreValidCells cs

-- the cells of a whole term
pub record IsTerm (cs : List Cell) : Type 0 where
  pub leaves : DueAfter 1 cs 0
  pub sound : AreValidCells cs

-- the first cells of a term, of which so many terms are still due
pub record IsTermPrefix (cs : List Cell) (due : ℕ) : Type 0 where
  pub leaves : DueAfter 1 cs due
  pub sound : AreValidCells cs

abbrev pub append_terms : Terms → Terms → Terms
append_terms end us = us
append_terms (more t ts) us = more t (append_terms ts us)

take_all : (ts us : Terms) → take_terms (count ts) (append_terms ts us) ≡ ts
take_all end us = refl
take_all (more t ts) us = ap (more t) (take_all ts us)

drop_all : (ts us : Terms) → drop_terms (count ts) (append_terms ts us) ≡ us
drop_all end us = refl
drop_all (more t ts) us = drop_all ts us

-- the cells of a term stand for it, whatever follows
mutual
  pub terms_of-cells_of : (t : Term) (cs : List Cell) → terms_of (cells_of t ++ cs) ≡ more t (terms_of cs)
  terms_of-cells_of (VarTerm n) cs = refl
  terms_of-cells_of (IntTerm z) cs = refl
  terms_of-cells_of (AtomTerm a) cs = refl
  terms_of-cells_of (Compound f ts) cs = rw (terms_of-all_cells ts cs) (rw (take_all ts (terms_of cs), drop_all ts (terms_of cs)))

  pub terms_of-all_cells : (ts : Terms) (cs : List Cell) → terms_of (all_cells ts ++ cs) ≡ append_terms ts (terms_of cs)
  terms_of-all_cells end cs = refl
  terms_of-all_cells (more t ts) cs = rw append_assoc (terms_of-cells_of t (all_cells ts ++ cs) ∙ ap (more t) (terms_of-all_cells ts cs))

pub term_of-cells_of : (t : Term) → term_of (cells_of t) ≡ t
term_of-cells_of t = ap (λ cs. first_of (terms_of cs)) (sym (append-nil (cells_of t))) ∙ ap first_of (terms_of-cells_of t [])

abbrev pub cell_parts : Cell → ℕ ⊎ (ℤ ⊎ (List ℕ ⊎ (List ℕ × ℕ)))
cell_parts (VarCell n) = inl n
cell_parts (IntCell z) = inr (inl z)
cell_parts (AtomCell a) = inr (inr (inl a))
cell_parts (Functor f n) = inr (inr (inr (f, n)))

abbrev pub cell_from : ℕ ⊎ (ℤ ⊎ (List ℕ ⊎ (List ℕ × ℕ))) → Cell
cell_from (inl n) = VarCell n
cell_from (inr (inl z)) = IntCell z
cell_from (inr (inr (inl a))) = AtomCell a
cell_from (inr (inr (inr p))) = Functor p.0 p.1

pub cell_from-parts : (c : Cell) → cell_from (cell_parts c) ≡ c
cell_from-parts (VarCell n) = refl
cell_from-parts (IntCell z) = refl
cell_from-parts (AtomCell a) = refl
cell_from-parts (Functor f n) = refl

abbrev pub cell_code : Coded Cell
cell_code =
    code_by (ℕ ⊎ (ℤ ⊎ (List ℕ ⊎ (List ℕ × ℕ)))) (coded⊎ coded_ℕ (coded⊎ coded_ℤ (coded⊎ (coded_list coded_ℕ) (coded× (coded_list coded_ℕ) coded_ℕ)))) cell_parts cell_from cell_from-parts

-- a term is stored as its cells
abbrev pub term_code : Coded Term
term_code = code_by (List Cell) (coded_list cell_code) cells_of term_of term_of-cells_of
