-- A region that is kept where its alternative goes on at the front.
use Rattle.std.specs.Prelude.{◌≡◌, ℕ, List, Option, IfSome}
use Rattle.region_split.specs.Regions.{RegionView}
use Rattle.region_split.specs.Texts.{TextView}
use Rattle.task_region.specs.KeptRegions.{KeptView, IsKeptIn, IsTakenBack}
use Rattle.tree_model.specs.Levels.{Place}
use Rattle.tree_nodes.specs.Rows.{Rows}

-- whatever is left of a region over its floor, what it is once it is taken back there is a kept region of a place
abbrev pub CanBeKept : Rows → Place → TextView → List ℕ → RegionView → Type 0
CanBeKept rows a text numbers r =
    (new : RegionView) (k : KeptView) → new.store.floor ≡ r.store.floor → new.text ≡ r.text → IsTakenBack new a numbers k → IsKeptIn rows text k

-- if there is one, it is one of these rows
abbrev pub IsKeptNow : Rows → TextView → Option KeptView → Type 0
IsKeptNow rows text kept = IfSome kept (IsKeptIn rows text)
