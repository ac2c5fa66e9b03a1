-- Bodies kept goal by goal.
use Rattle.std.specs.Prelude.{◌≡◌, ℕ, ◌<◌, ◌≤◌, List, [], ◌++◌, length, drop, Option, Some, None}
use Rattle.std.specs.Option.{option_map}
use Rattle.au_term.specs.Term.{Terms, end, more, count}
use Rattle.au_term.specs.PrefixOrder.{cells_of, terms_of, due_after}
use Rattle.au_term.specs.declared.cell.Cell.{Cell}
use Rattle.run_model.specs.Programs.Bodies.{body_of}

abbrev pub joined_cells : Option (List Cell) → Option (List Cell) → Option (List Cell)
joined_cells (Some cs) (Some ds) = Some (cs ++ ds)
joined_cells (Some cs) None = None
joined_cells None o = None

-- the cells of the bodies that terms stand for, one after the other, where each of them stands for one
abbrev pub bodies_cells : Terms → Option (List Cell)
bodies_cells end = Some []
bodies_cells (more t ts) = joined_cells (option_map cells_of (body_of t)) (bodies_cells ts)

-- what was at a place was kept: what is built and the bodies after it are the same cells as before
pub record NormalizesGoal (cells : List Cell) (at next : ℕ) (built now : List Cell) : Type 0 where
  pub forward : at < next
  pub within : next ≤ length cells
  pub due : due_after 1 now ≡ count (terms_of (drop next cells))
  pub same : joined_cells (Some now) (bodies_cells (terms_of (drop next cells))) ≡ joined_cells (Some built) (bodies_cells (terms_of (drop at cells)))
