-- Own entries of a region over the bare floor of a branch, and what is taken off the region for them.
use Rattle.std.specs.Prelude.{◌≡◌, ℕ, ◌-◌, ◌≤◌, List, ◌∷◌, length, map, slice_get, Some, IsSomeAnd}
use Rattle.au_model.specs.Terms.Each.{Each}
use Rattle.au_model.specs.Terms.Named.{NamedTerm}
use Rattle.run_model.specs.Laws.Numbering.{IsNamedBelow}
use Rattle.run_model.specs.Machine.Entries.{Entry}
use Rattle.clause_compile.specs.declared.item.Item.{Item as BranchItem}
use Rattle.cell_store.specs.StoreView.{Moment}
use Rattle.region_split.specs.QueryEnds.{IsEnd, AreEndsOldest}
use Rattle.region_split.specs.Regions.{RegionView}
use Rattle.region_split.specs.declared.frame.Position.{Position}
use Rattle.region_floor.specs.BareFloors.{AreOwn, bare_stack}
use Rattle.region_floor.specs.Deferred.{Deferred, joined_entry}
use Rattle.tree_model.specs.Levels.{Level}
use Rattle.task_region.specs.TaskViews.{carried, position_stack}
use Rattle.branch_reading.specs.Readings.{items_meant}
use Rattle.branch_shapes.specs.FloorItems.{NamesLevels, items_over_floor}
use Rattle.branch_shapes.specs.Groups.{Groups, stacked}
use Rattle.branch_shapes.specs.MeantBranches.{Placement}
use Rattle.task_publishing.specs.PublishedRuns.{IsTakenOff, published_entry}
use Rattle.region_capture.specs.CapturedMeanings.{MeantAlternative}
use Rattle.region_capture.specs.CapturedChoices.{BoundThen, MeantChoice}
use Rattle.region_capture.specs.CapturedRegions.{CapturesRegion, IsCaptureFloor, bound_at}
use Rattle.region_capture.specs.declared.captured.Captured.{Captured}
use Rattle.region_capture.specs.declared.captured.CapturedKind.TheVariants.{Choice}

-- the items that an alternative of the tree had left, by heights over its branch, all of them deferred
abbrev pub deferred_over : List Level → List NamedTerm → List BranchItem → Deferred
deferred_over levels named items = record { named = length named; items = items_over_floor levels (items_meant items) }

-- a region that goes on at a position stands for own entries
pub record StandsForOwn (levels : List Level) (named : List NamedTerm) (items : List BranchItem) (r : RegionView) (p : Position) (own : List Entry) : Type 0 where
  pub are_own : AreOwn (length levels) own
  pub entries : position_stack named (items_over_floor levels (items_meant items)) r p ≡ bare_stack levels own
  pub ends : AreEndsOldest r.choices
  pub marks : length r.store.marks ≡ length r.choices

-- where groups of entries become nodes
abbrev pub placement_of : List Level → ℕ → List NamedTerm → Groups → Placement
placement_of levels number named groups = record { groups = groups; levels = levels; number = number; named = named }

-- what was taken off a region means own entries, with the items that the alternative had left in the place of what stands for them: an
-- entry on top, and a group for each choice point
pub record AreTakenOff (levels : List Level) (number : ℕ) (named : List NamedTerm) (items : List BranchItem) (start : BoundThen) (c : Captured)
    (own : List Entry) : Type 0 where
  pub groups : Groups
  pub current : MeantAlternative
  pub choices : List MeantChoice
  pub taken : IsTakenOff (placement_of levels number named groups) items start c current choices
  pub entries : map (joined_entry (deferred_over levels named items)) own
      ≡ published_entry (placement_of levels number named groups) items Choice current ∷ stacked groups

-- own entries that are captured are taken off, with what was bound when the newest choice point of the floor came as the start, where the
-- query's named terms and what is deferred have variables of that time
abbrev pub OwnEntriesAreTaken : Type 0
OwnEntriesAreTaken =
    (levels : List Level) (number : ℕ) (named : List NamedTerm) (items : List BranchItem) (old new : RegionView) (p : Position) (own : List Entry)
    (c : Captured) (start : Moment)
    → StandsForOwn levels named items old p own → Each (NamesLevels levels) (items_meant items) → CapturesRegion old new (length levels) p c
    → slice_get old.store.marks (length levels - 1) ≡ Some start
    → Each (IsNamedBelow start.next) (carried named (items_over_floor levels (items_meant items))) → AreTakenOff levels number named items (bound_at start) c own

-- so many of the oldest choice points are the ends of a floor, at least one, and no others are ends
pub record IsOverEnds (floor : ℕ) (r : RegionView) : Type 0 where
  pub floor_is : IsCaptureFloor floor r
  pub newest : IsSomeAnd (slice_get r.choices (floor - 1)) (λ c. IsEnd c.alternatives)

-- so own entries can be captured
abbrev pub OwnEntriesAreOverFloor : Type 0
OwnEntriesAreOverFloor =
    (levels : List Level) (named : List NamedTerm) (items : List BranchItem) (r : RegionView) (p : Position) (own : List Entry)
    → StandsForOwn levels named items r p own → 1 ≤ length levels → IsOverEnds (length levels) r
