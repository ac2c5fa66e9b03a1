-- Copies cell by cell.
use Rattle.std.specs.Prelude.{ℕ, ◌+◌, List, [], ◌∷◌, Option, Some, None, cond, ◌==◌}
use Rattle.std.specs.List.{list_any}
use Rattle.au_term.specs.declared.cell.Cell.{Cell}
use Rattle.au_term.specs.declared.cell.Cell.TheVariants.{Var as VarCell, Int as IntCell, Atom as AtomCell, Functor}
use Rattle.au_model.specs.Terms.Copies.{noted, place_of}

-- the variables seen along cells, in order of first occurrence, after those seen before
abbrev pub occurrences_at : Cell → List ℕ → List ℕ
occurrences_at (VarCell n) seen = noted seen n
occurrences_at (IntCell z) seen = seen
occurrences_at (AtomCell a) seen = seen
occurrences_at (Functor f n) seen = seen

abbrev pub occurrences_along : List Cell → List ℕ → List ℕ
occurrences_along [] seen = seen
occurrences_along (c ∷ cs) seen = occurrences_along cs (occurrences_at c seen)

-- a cell with its variable renamed
abbrev pub renamed_cell : List ℕ → ℕ → Cell → Cell
renamed_cell seen next (VarCell n) = VarCell (next + place_of seen n)
renamed_cell seen next (IntCell z) = IntCell z
renamed_cell seen next (AtomCell a) = AtomCell a
renamed_cell seen next (Functor f n) = Functor f n

-- the place of a variable that was seen
abbrev pub place_among : ℕ → List ℕ → Option ℕ
place_among n seen = cond (list_any (λ m. m == n) seen) (Some (place_of seen n)) None
