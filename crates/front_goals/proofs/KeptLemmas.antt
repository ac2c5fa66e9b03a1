-- A region is kept where the tree goes on.
use Rattle.std.proofs.Common.{◌≡◌, ◌<◌, ℕ, List, length, Option, Some, None}
use Rattle.std.specs.Prelude.{IfSome}
use Rattle.region_split.specs.Regions.{RegionView}
use Rattle.region_split.specs.Texts.{TextView}
use Rattle.task_region.specs.KeptRegions.{KeptView, IsOnWay, IsTakenBack, KeptRegionsStay, TasksLeaveKept}
use Rattle.task_region.specs.TaskViews.{TaskView}
use Rattle.tree_model.specs.Levels.{Place}
use Rattle.tree_nodes.specs.Rows.{Rows}
use Rattle.tree_nodes.specs.Staying.{StayMade}
use Rattle.front_goals.specs.KeptAtFront.{CanBeKept, IsKeptNow}

pub kept_after : KeptRegionsStay → (old new : Rows) (a : Place) (text : TextView) (numbers : List ℕ) (r back : RegionView) (kept : Option KeptView) → StayMade old new
    → CanBeKept old a text numbers r → back.store.floor ≡ r.store.floor → back.text ≡ r.text → IfSome kept (IsTakenBack back a numbers) → IsKeptNow new text kept
kept_after law old new a text numbers r back None made can floor same h = tt
kept_after law old new a text numbers r back (Some k) made can floor same h = law old new text k made (can back k floor same h)

pub can_be_kept : TasksLeaveKept → (rows : Rows) (a : Place) (text : TextView) (numbers : List ℕ) (t : TaskView) → a.node < length rows → IsOnWay rows a text numbers t → CanBeKept rows a text numbers t.region
can_be_kept law rows a text numbers t drawn on = λ new k floor same back. law rows a text numbers t new k drawn on floor same back
