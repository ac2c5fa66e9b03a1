-- How many cells the subterms of a term take.
use Rattle.std.specs.Prelude.{◌≡◌, ℕ, suc, ◌≤◌, List, [], ◌∷◌, ◌++◌, length, drop}
use Rattle.au_term.specs.Term.{Term, Compound, Terms, end, more, count}
use Rattle.au_term.specs.PrefixOrder.{all_cells, terms_of, IsTerm}
use Rattle.au_term.specs.declared.cell.Cell.{Cell}

-- for each cell of a term, how many cells the subterm that begins there takes
abbrev mutual
  pub sizes_of : Term → List ℕ
  sizes_of (Compound f ts) = suc (length (all_cells ts)) ∷ all_sizes ts
  sizes_of _ = 1 ∷ []

  pub all_sizes : Terms → List ℕ
  all_sizes end = []
  all_sizes (more t ts) = sizes_of t ++ all_sizes ts

-- the cells are those of a term, and the sizes those of its subterms
pub record IsMeasured (cells : List Cell) (sizes : List ℕ) : Type 0 where
  pub term : IsTerm cells
  pub measured : sizes ≡ all_sizes (terms_of cells)

-- from this place on the sizes are those of these terms, which are so many or more
pub record HasSizes (sizes : List ℕ) (start number : ℕ) (ts : Terms) : Type 0 where
  pub from : drop start sizes ≡ all_sizes ts
  pub enough : number ≤ count ts
