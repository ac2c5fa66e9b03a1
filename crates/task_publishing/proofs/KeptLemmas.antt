-- Of the region of a task that is published what is bound on its branch is kept.
use Rattle.std.proofs.Common.{◌≡◌, ◌<◌, ℕ, zero, suc, true, List, [], ◌∷◌, length, Option, Some, None, arith}
use Rattle.std.specs.Prelude.{IfSome, is_some, slice_get}
use Rattle.region_split.specs.Regions.{RegionView}
use Rattle.task_region.specs.KeptRegions.{KeptView, IsKeptIn, IsOnWay, IsTakenBack, KeptRegionsStay, TasksLeaveKept}
use Rattle.task_region.specs.TaskViews.{TaskView}
use Rattle.tree_model.specs.Levels.{Place}
use Rattle.tree_nodes.specs.Rows.{Rows, alternatives_at, row_of_node}
use Rattle.tree_nodes.specs.Staying.{StayMade}

-- the number of a node that is there has been drawn
pub number_drawn : (rows : Rows) (n i : ℕ) → is_some (slice_get (alternatives_at (row_of_node rows n)) i) ≡ true → n < length rows
number_drawn [] n i h = absurd (cc h)
number_drawn (r ∷ rows) zero i h = omega arith
number_drawn (r ∷ rows) (suc n) i h = let k = number_drawn rows n i h in omega (arith, k)

pub kept_over : KeptRegionsStay → TasksLeaveKept → (old new : Rows) (a : Place) (numbers : List ℕ) (t : TaskView) (left : RegionView) (kept : Option KeptView)
    → a.node < length old → IsOnWay old a t.region.text numbers t → left.store.floor ≡ t.region.store.floor → left.text ≡ t.region.text → StayMade old new
    → IfSome kept (IsTakenBack left a numbers) → IfSome kept (IsKeptIn new t.region.text)
kept_over stay leave old new a numbers t left None drawn way floor text made back = tt
kept_over stay leave old new a numbers t left (Some k) drawn way floor text made back =
    stay old new t.region.text k made (leave old a t.region.text numbers t left k drawn way floor text back)
