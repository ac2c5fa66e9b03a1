-- The query to which an alternative belongs: the one that was opened last on its branch.
use Rattle.std.specs.Prelude.{◌≡◌, ℕ, zero, suc, List, Option, None, slice_get}
use Rattle.task_region.specs.PlacesUp.{AreAllUp, branching_at}
use Rattle.branch_reading.specs.Readings.{queries_on}
use Rattle.run_model.specs.Programs.Jobs.{Query}
use Rattle.tree_model.specs.Levels.{Place}
use Rattle.tree_nodes.specs.Rows.{Rows}

-- of so many that were opened
abbrev pub last_opened : ℕ → List Query → Option Query
last_opened zero queries = None
last_opened (suc n) queries = slice_get queries n

-- so many were opened on the way up from a place
pub record AreOpenedOn (rows : Rows) (a : Place) (count : ℕ) : Type 0 where
  pub places : List Place
  pub up : AreAllUp rows a places
  pub count_is : count ≡ queries_on (branching_at rows places)
